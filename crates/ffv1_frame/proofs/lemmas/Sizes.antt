-- Products of sizes.
use Rattle.std.proofs.Common.{ℕ, suc, ◌+◌, ◌*◌, ◌<◌, ◌≤◌, arith}
use Rattle.std.proofs.Math.Nat.{mul-le-mul_right}

-- the states of a class lie in those of its column
pub class_room : (class classes most n : ℕ) → class < classes → n ≤ most → class * most * 32 + n * 32 ≤ classes * most * 32
class_room class classes most n less few =
    let all : suc class * most ≤ classes * most = mul-le-mul_right {m = suc class} {n = classes} most less in
    omega (arith, all, few)

-- a window of n parts of equal size, and one further after
pub part_apart : (j k size : ℕ) → j < k → j * size + size ≤ k * size
part_apart j k size less =
    let all : suc j * size ≤ k * size = mul-le-mul_right {m = suc j} {n = k} size less in
    omega (arith, all)

-- the states of a column are few
pub slots_small : (classes most : ℕ) → classes ≤ 3 → most ≤ 32768 → classes * most * 32 ≤ 3145728
slots_small classes most less few =
    let all : classes * most ≤ 3 * most = mul-le-mul_right {m = classes} {n = 3} most less in
    omega (arith, all, few)

pub part_small : (k slots : ℕ) → k < 32 → slots ≤ 3145728 → k * slots + slots ≤ 100663296
part_small k slots less few =
    let all : suc k * slots ≤ 32 * slots = mul-le-mul_right {m = suc k} {n = 32} slots less in
    omega (arith, all, few)

pub grid_small : (rows columns : ℕ) → rows ≤ 32 → columns ≤ 32 → rows * columns ≤ 1024
grid_small rows columns few narrow =
    let all : rows * columns ≤ 32 * columns = mul-le-mul_right {m = rows} {n = 32} columns few in
    omega (arith, all, narrow)
