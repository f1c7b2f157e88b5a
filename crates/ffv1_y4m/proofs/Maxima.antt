-- The greatest samples, as they are spelled.
use Rattle.std.proofs.Common.{◌≡◌, ℕ, ◌+◌, ◌/◌, ◌%◌, ◌^◌, ◌<◌, ◌≤◌, List, [], ◌∷◌, ◌++◌, codes, decimal, ap, ◌∙◌, arith}
use Rattle.std.proofs.lemmas.Fmt.{decimal_digit, decimal_step}

one_more : (n : ℕ) (front : List ℕ) → 10 ≤ n → n < 2 ^ 64 → decimal (n / 10) ≡ front → decimal n ≡ front ++ (48 + n % 10) ∷ []
one_more n front least most is = decimal_step n least most ∙ ap (λ z. z ++ (48 + n % 10) ∷ []) is

pub spelled_8 : decimal 255 ≡ codes "255"
spelled_8 = one_more 255 (codes "25") (omega arith) (omega arith) (one_more 25 (codes "2") (omega arith) (omega arith) (decimal_digit 2 (omega arith)))

pub spelled_9 : decimal 511 ≡ codes "511"
spelled_9 = one_more 511 (codes "51") (omega arith) (omega arith) (one_more 51 (codes "5") (omega arith) (omega arith) (decimal_digit 5 (omega arith)))

pub spelled_10 : decimal 1023 ≡ codes "1023"
spelled_10 = one_more 1023 (codes "102") (omega arith) (omega arith) (one_more 102 (codes "10") (omega arith) (omega arith) (one_more 10 (codes "1") (omega arith) (omega arith) (decimal_digit 1 (omega arith))))

pub spelled_12 : decimal 4095 ≡ codes "4095"
spelled_12 = one_more 4095 (codes "409") (omega arith) (omega arith) (one_more 409 (codes "40") (omega arith) (omega arith) (one_more 40 (codes "4") (omega arith) (omega arith) (decimal_digit 4 (omega arith))))

pub spelled_14 : decimal 16383 ≡ codes "16383"
spelled_14 =
    one_more 16383 (codes "1638") (omega arith) (omega arith)
    (one_more 1638 (codes "163") (omega arith) (omega arith) (one_more 163 (codes "16") (omega arith) (omega arith) (one_more 16 (codes "1") (omega arith) (omega arith) (decimal_digit 1 (omega arith)))))

pub spelled_16 : decimal 65535 ≡ codes "65535"
spelled_16 =
    one_more 65535 (codes "6553") (omega arith) (omega arith)
    (one_more 6553 (codes "655") (omega arith) (omega arith) (one_more 655 (codes "65") (omega arith) (omega arith) (one_more 65 (codes "6") (omega arith) (omega arith) (decimal_digit 6 (omega arith)))))
