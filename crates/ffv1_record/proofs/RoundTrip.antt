-- A record is read as the one configuration that it is of.
use Rattle.std.proofs.Common.{◌≡◌, ℕ, Bool, Decides, List, ap, sym, subst, Ok, ◌∙◌, arith}
use Rattle.ffv1_range.specs.Codes.{AreBytes}
use Rattle.ffv1_range.specs.Table.{Table}
use Rattle.ffv1_range.proofs.OneTable.{one_table}
use Rattle.ffv1_record.specs.declared.config.Coder.{Coder}
use Rattle.ffv1_record.specs.declared.config.Coder.TheVariants as coder
use Rattle.ffv1_record.specs.Configuration.{Configuration}
use Rattle.ffv1_record.specs.Accepted.{Accepted, IsAccepted, IsTableFor}
use Rattle.ffv1_record.specs.declared.config.Profile.{Profile}
use Rattle.ffv1_record.specs.Equal.{is_same_checked, profiled_of, same_profiled}
use Rattle.std.proofs.lemmas.Bool.Decides.{Decides-at, Decides-like}
use Rattle.ffv1_record.specs.Record.{IsRecord, IsCoded, body_of}
use Rattle.ffv1_record.specs.Reader.{Spot}
use Rattle.ffv1_record.specs.Reading.{parameters, beginning}
use Rattle.ffv1_record.proofs.Checks.{depth_bounds, known_depth}
use Rattle.ffv1_record.proofs.ReadIsCoded.{ok_same}
use Rattle.ffv1_record.proofs.CodedRecordIsRead.{forced_parameters, ending_of, ending_past}
use Rattle.ffv1_record.proofs.RecordIsRead.{read_so}

module _ (bytes : List ℕ) (are : AreBytes (body_of bytes)) where
  -- what is stored is read
  pub read_whole : (c : Configuration) (t : Table) → IsAccepted c t → IsRecord bytes c → (s : Spot) × parameters 0 16 c.width c.height (body_of bytes) beginning (Ok (c, s))
  read_whole c t is stored =
      let bounds = depth_bounds 16 c.depth is.depth in
      let reads = (forced_parameters (body_of bytes) are 0 16 stored.bits c t (known_depth stored.bits c.depth stored.known bounds.0) bounds.1 is is.writable (omega arith)).reads (subst (IsCoded (body_of bytes)) (sym (ending_past stored.bits c)) stored.coded) in
      (ending_of stored.bits c, reads)

  pub one_configuration : (c d : Configuration) (t u : Table) → IsAccepted c t → IsAccepted d u → c.width ≡ d.width → c.height ≡ d.height → IsRecord bytes c → IsRecord bytes d → c ≡ d
  one_configuration c d t u is_c is_d wide high stored_c stored_d =
      let read = read_whole c t is_c stored_c in
      let there = subst (λ h. parameters 0 16 d.width h (body_of bytes) beginning (Ok (c, read.0))) high (subst (λ w. parameters 0 16 w c.height (body_of bytes) beginning (Ok (c, read.0))) wide read.1) in
      ap (λ p. p.0) (ok_same (c, read.0) (d, ending_of stored_d.bits d) (read_so bytes are d u is_d stored_d 16 (depth_bounds 16 d.depth is_d.depth).1 0 (omega arith) (Ok (c, read.0)) there))

pub one_table_for : (c : Coder) (t u : Table) → IsTableFor c t → IsTableFor c u → t ≡ u
one_table_for coder.Rice t u p q = p ∙ sym q
one_table_for coder.One t u p q = p ∙ sym q
one_table_for (coder.Two deltas) t u p q = one_table deltas t u p q

-- two checked configurations are equal where the configurations and the profiles are
pub same_checked : (a b : Accepted) (test : Bool) → test ≡ is_same_checked a b → IsAccepted a.configuration a.table → IsAccepted b.configuration b.table → Decides test (a ≡ b)
same_checked a b test is is_a is_b =
    Decides-at test (is_same_checked a b) is (Decides-like (is_same_checked a b)
    (λ e. let same : a.configuration ≡ b.configuration = ap (λ (z : Profile × Configuration). z.1) e in
    join same (one_table_for b.configuration.coder a.table b.table (subst (λ (c : Configuration). IsTableFor c.coder a.table) same is_a.table) is_b.table) (ap (λ (z : Profile × Configuration). z.0) e))
    (λ e. ap profiled_of e) (same_profiled (profiled_of a) (profiled_of b)))
  where
    triple : Configuration → Table → Profile → Accepted
    triple c t p = record { configuration = c; table = t; profile = p }

    join : a.configuration ≡ b.configuration → a.table ≡ b.table → a.profile ≡ b.profile → a ≡ b
    join e f p = ap (λ c. triple c a.table a.profile) e ∙ ap (λ t. triple b.configuration t a.profile) f ∙ ap (triple b.configuration b.table) p
