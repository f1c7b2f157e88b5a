-- The configuration of a record (RFC 9043, 4.3), for pictures of a size that the container tells,
-- checked in a profile, which it keeps.
use Rattle.ffv1_record.proofs.RecordIsRead.{read_is, refused_by_memory, good_start, none_stands}
use Rattle.ffv1_record.proofs.RecordIsRead.{taken_bytes}
use Rattle.std.proofs.Common.{◌≡◌, ◌≤◌, ◌∙◌, ◌-◌, subst, length, arith, inr}
use Rattle.ffv1_record.specs.Accepted.{IsFirstUpTo, checks, deepest, least_coder}
use Rattle.ffv1_record.proofs.Checks.{depth_up_to, kind_allowed, passed_coder}
use Rattle.std.proofs.lemmas.Result.{err_from_is_err_and}
use Rattle.ffv1_range.specs.Codes.{AreBytes}
use Rattle.ffv1_record.specs.Record.{body_of}
use Rattle.ffv1_record.specs.Reading.{beginning}
use Rattle.ffv1_record.specs.Configuration.{Configuration, configuration_of, at_depth}
use Rattle.ffv1_record.specs.Parity.{remainder_of}
use Rattle.ffv1_record.proofs.ReadIsRecord.{first_of, record_found, found_width, found_height}
use Rattle.ffv1_record.proofs.ReadIsRecord.{not_read, not_checked, seen, seen_err}
use Rattle.ffv1_record.proofs.CallsGive.{told}
use Rattle.ffv1_record.proofs.read.read_whole.Goals as goal

pub returns-in-Ok-clause-found : goal.returns-in-Ok-clause-found
returns-in-Ok-clause-found g c =
    let long : 5 ≤ length c.args.bytes.now = c.if-bytes-lt5.false in
    let whole : remainder_of c.args.bytes.now ≡ 0 =
    (c.parity_makes_the_remainder_zero.ensures.zero c.args.bytes.now
    (λ k. omega (arith, c.type_inv.bytes k))).0
    (omega (arith, c.parity.ensures, c.if-parity-ne0.false)) in
    rw c.in-Ok.ensures.ok (record_found c.args.profile (deepest c.args.profile c.args.most) c.args.bytes.now
    c.args.width c.args.height _ _ long whole c.in_ok-reader.ensures.ok _
    (seen (λ r. at_depth (configuration_of r.0) r.1) _ _ _ _
    (rw c.deepest-greatest.ensures at c.in_ok-read.ensures.gives)))

pub returns-in-Ok-clause-width : goal.returns-in-Ok-clause-width
returns-in-Ok-clause-width g c =
    let long : 5 ≤ length c.args.bytes.now = c.if-bytes-lt5.false in
    let whole : remainder_of c.args.bytes.now ≡ 0 =
    (c.parity_makes_the_remainder_zero.ensures.zero c.args.bytes.now
    (λ k. omega (arith, c.type_inv.bytes k))).0
    (omega (arith, c.parity.ensures, c.if-parity-ne0.false)) in
    rw c.in-Ok.ensures.ok (found_width c.args.profile (deepest c.args.profile c.args.most) c.args.bytes.now
    c.args.width c.args.height _ _ long whole c.in_ok-reader.ensures.ok _
    (seen (λ r. at_depth (configuration_of r.0) r.1) _ _ _ _
    (rw c.deepest-greatest.ensures at c.in_ok-read.ensures.gives)))

pub returns-in-Ok-clause-height : goal.returns-in-Ok-clause-height
returns-in-Ok-clause-height g c =
    let long : 5 ≤ length c.args.bytes.now = c.if-bytes-lt5.false in
    let whole : remainder_of c.args.bytes.now ≡ 0 =
    (c.parity_makes_the_remainder_zero.ensures.zero c.args.bytes.now
    (λ k. omega (arith, c.type_inv.bytes k))).0
    (omega (arith, c.parity.ensures, c.if-parity-ne0.false)) in
    rw c.in-Ok.ensures.ok (found_height c.args.profile (deepest c.args.profile c.args.most) c.args.bytes.now
    c.args.width c.args.height _ _ long whole c.in_ok-reader.ensures.ok _
    (seen (λ r. at_depth (configuration_of r.0) r.1) _ _ _ _
    (rw c.deepest-greatest.ensures at c.in_ok-read.ensures.gives)))

pub returns-in_err-read-clause-exact : goal.returns-in_err-read-clause-exact
returns-in_err-read-clause-exact g c =
    let long : 5 ≤ length c.args.bytes.now = c.if-bytes-lt5.false in
    let whole : remainder_of c.args.bytes.now ≡ 0 =
    (c.parity_makes_the_remainder_zero.ensures.zero c.args.bytes.now
    (λ k. omega (arith, c.type_inv.bytes k))).0
    (omega (arith, c.parity.ensures, c.if-parity-ne0.false)) in
    let p = err_from_is_err_and c.from_residual-in_err-read.result
    c.from_residual-in_err-read.ensures.1 in
    rw (p.1, p.2) (not_read c.args.profile (deepest c.args.profile c.args.most) c.args.bytes.now
    c.args.width c.args.height _ _ long whole c.in_ok-reader.ensures.ok _
    (seen_err (λ r. at_depth (configuration_of r.0) r.1) _ _ _ _
    (rw c.deepest-greatest.ensures at c.in_err-read.ensures.gives)))

pub returns-in-Err-clause-exact : goal.returns-in-Err-clause-exact
returns-in-Err-clause-exact g c =
    let long : 5 ≤ length c.args.bytes.now = c.if-bytes-lt5.false in
    let whole : remainder_of c.args.bytes.now ≡ 0 =
    (c.parity_makes_the_remainder_zero.ensures.zero c.args.bytes.now
    (λ k. omega (arith, c.type_inv.bytes k))).0
    (omega (arith, c.parity.ensures, c.if-parity-ne0.false)) in
    inr (not_checked c.args.profile (deepest c.args.profile c.args.most) c.args.bytes.now
    c.args.width c.args.height _ _ long whole c.in_ok-reader.ensures.ok _ _
    (seen (λ r. at_depth (configuration_of r.0) r.1) _ _ _ _
    (rw c.deepest-greatest.ensures at c.in_ok-read.ensures.gives)) c.in-Err.ensures.refused)

pub returns-in_err-reader-clause-only : goal.returns-in_err-reader-clause-only
returns-in_err-reader-clause-only g c = λ x t wide high low is passes stored.
    let are : AreBytes (body_of c.args.bytes.now) = taken_bytes c.args.bytes.now
    (length c.args.bytes.now - 4) (λ k. omega (arith, c.type_inv.bytes k)) in
    absurd (good_start c.args.bytes.now are x t is stored _ low (least_coder c.args.profile)
    (kind_allowed c.args.profile x (passed_coder c.args.profile x passes))
    c.in_err-reader.ensures.refused.1)

pub returns-in_err-read-clause-only : goal.returns-in_err-read-clause-only
returns-in_err-read-clause-only g c = λ x t wide high low is passes stored.
    let are : AreBytes (body_of c.args.bytes.now) = taken_bytes c.args.bytes.now
    (length c.args.bytes.now - 4) (λ k. omega (arith, c.type_inv.bytes k)) in
    let p = err_from_is_err_and c.from_residual-in_err-read.result
    c.from_residual-in_err-read.ensures.1 in
    rw (p.1, p.2) (refused_by_memory c.args.bytes.now are x t is stored _ low (least_coder c.args.profile)
    (kind_allowed c.args.profile x (passed_coder c.args.profile x passes)) c.args.width
    c.args.height wide high _ _ c.in_ok-reader.ensures.ok _
    (seen_err (λ r. at_depth (configuration_of r.0) r.1) _ _ _ _
    (rw c.deepest-greatest.ensures at c.in_err-read.ensures.gives)))

pub returns-in-Ok-clause-only : goal.returns-in-Ok-clause-only
returns-in-Ok-clause-only g c = λ x t wide high low is passes stored.
    let are : AreBytes (body_of c.args.bytes.now) = taken_bytes c.args.bytes.now
    (length c.args.bytes.now - 4) (λ k. omega (arith, c.type_inv.bytes k)) in
    c.in-Ok.ensures.ok ∙ read_is c.args.bytes.now are x t is stored _ low (least_coder c.args.profile)
    (kind_allowed c.args.profile x (passed_coder c.args.profile x passes)) c.args.width c.args.height
    wide high _ _ c.in_ok-reader.ensures.ok _
    (seen (λ r. at_depth (configuration_of r.0) r.1) _ _ _ _
    (rw c.deepest-greatest.ensures at c.in_ok-read.ensures.gives))

pub returns-in-Err-clause-only : goal.returns-in-Err-clause-only
returns-in-Err-clause-only g c = λ x t wide high low is passes stored.
    let are : AreBytes (body_of c.args.bytes.now) = taken_bytes c.args.bytes.now
    (length c.args.bytes.now - 4) (λ k. omega (arith, c.type_inv.bytes k)) in
    let same = read_is c.args.bytes.now are x t is stored _ low (least_coder c.args.profile)
    (kind_allowed c.args.profile x (passed_coder c.args.profile x passes)) c.args.width c.args.height wide high
    _ _ c.in_ok-reader.ensures.ok _ (seen (λ r. at_depth (configuration_of r.0) r.1) _ _ _ _
    (rw c.deepest-greatest.ensures at c.in_ok-read.ensures.gives)) in
    let most = deepest c.args.profile c.args.most in
    let deep = depth_up_to 16 most x.depth is.depth low in
    absurd (none_stands c.args.profile checks x c.in-Err.fault passes
    (first_of c.args.profile most x c.in-Err.fault deep
    (subst (λ (z : Configuration). IsFirstUpTo c.args.profile most z
    c.in-Err.fault) same c.in-Err.ensures.refused)))

pub returns-in_err-read-clause-memory : goal.returns-in_err-read-clause-memory
returns-in_err-read-clause-memory g c =
    let long : 5 ≤ length c.args.bytes.now = c.if-bytes-lt5.false in
    let whole : remainder_of c.args.bytes.now ≡ 0 =
    (c.parity_makes_the_remainder_zero.ensures.zero c.args.bytes.now
    (λ k. omega (arith, c.type_inv.bytes k))).0
    (omega (arith, c.parity.ensures, c.if-parity-ne0.false)) in
    told _ c.from_residual-in_err-read.result c.from_residual-in_err-read.ensures.1
    (λ memory. let read = (rw c.deepest-greatest.ensures at
    (c.in_err-read.ensures.memory memory)).read (body_of c.args.bytes.now) beginning
    c.in_ok-reader.ensures.ok in
    record {
      long = long;
      whole = whole;
      start = c.in_ok-reader.ensures.start;
      count = read.0;
      behind = read.1;
      read = read.2;
    })

pub returns-in-Err-clause-memory : goal.returns-in-Err-clause-memory
returns-in-Err-clause-memory g c = λ memory. absurd (c.in-Err.ensures.memory memory)

pub returns-in_err-read-clause-run : goal.returns-in_err-read-clause-run
returns-in_err-read-clause-run g c =
    let long : 5 ≤ length c.args.bytes.now = c.if-bytes-lt5.false in
    let whole : remainder_of c.args.bytes.now ≡ 0 =
    (c.parity_makes_the_remainder_zero.ensures.zero c.args.bytes.now
    (λ k. omega (arith, c.type_inv.bytes k))).0
    (omega (arith, c.parity.ensures, c.if-parity-ne0.false)) in
    told _ c.from_residual-in_err-read.result c.from_residual-in_err-read.ensures.1
    (λ memory. let read = (rw c.deepest-greatest.ensures at (c.in_err-read.ensures.run memory)).read
    (body_of c.args.bytes.now) beginning c.in_ok-reader.ensures.ok in
    record {
      long = long;
      whole = whole;
      start = c.in_ok-reader.ensures.start;
      run = read.0;
      behind = read.1;
      read = read.2;
    })

pub returns-in-Err-clause-run : goal.returns-in-Err-clause-run
returns-in-Err-clause-run g c = λ memory. absurd (c.in-Err.ensures.memory memory)
