-- The elements that a Cluster lists, in words.
use Rattle.std.proofs.Common.{◌≡◌, ◌⊎◌, inl, inr, ℕ, ◌≤◌, ◌==◌, ◌||◌, Bool, true, false, Err, List, length, ap, ◌∙◌, ◌++◌, refl}
use Rattle.std.proofs.lemmas.Bool.{eqb-true, le-leb, leb-true}
use Rattle.ffv1_reads.specs.declared.fault.FileFault.TheVariants as fault
use Rattle.ffv1_reads.specs.Reads.{Met, read_on}
use Rattle.ffv1_ebml.specs.Elements.{crc_ident}
use Rattle.ffv1_ebml.specs.Vints.{IsVint, number_of}
use Rattle.ffv1_ebml.proofs.OutsideLaws.{outside_refused}
use Rattle.ffv1_matroska.specs.Elements.{IsListed, IsNumberIdent, IsPassedIdent, IsPiece, Leaf, Piece, Single, Group, content_text, piece_ident, stands_single}
use Rattle.ffv1_matroska.specs.Segments.{block_group, cluster_child, cluster_read, cluster_rest, is_beside, is_filler, is_outside, outside_idents, simple_block}
use Rattle.ffv1_matroska.specs.declared.place.Place.{Place}
use Rattle.ffv1_matroska.specs.declared.track.TrackNumbers.{TrackNumbers}

one_is : (a b : Bool) → (a || b) ≡ true → (a ≡ true) ⊎ (b ≡ true)
one_is true b h = inl refl
one_is false b h = inr h

numbers : (ident : ℕ) → (ident == 231 || ident == 167 || ident == 171) ≡ true → IsNumberIdent ident
numbers ident h = on_last (one_is (ident == 231 || ident == 167) (ident == 171) h)
  where
    on_first : ((ident == 231) ≡ true) ⊎ ((ident == 167) ≡ true) → IsNumberIdent ident
    on_first (inl k) = inl (eqb-true _ _ k)
    on_first (inr k) = inr (inl (eqb-true _ _ k))

    on_last : ((ident == 231 || ident == 167) ≡ true) ⊎ ((ident == 171) ≡ true) → IsNumberIdent ident
    on_last (inl k) = on_first (one_is (ident == 231) (ident == 167) k)
    on_last (inr k) = inr (inr (eqb-true _ _ k))

passed_are : (ident : ℕ) → (ident == 22612 || ident == 175 || is_filler ident) ≡ true → IsPassedIdent ident
unfolding is_filler
passed_are ident h = on_last (one_is (ident == 22612 || ident == 175) (is_filler ident) h)
  where
    on_first : ((ident == 22612) ≡ true) ⊎ ((ident == 175) ≡ true) → IsPassedIdent ident
    on_first (inl k) = inl (eqb-true _ _ k)
    on_first (inr k) = inr (inl (eqb-true _ _ k))

    on_filler : ((ident == 236) ≡ true) ⊎ ((ident == crc_ident) ≡ true) → IsPassedIdent ident
    on_filler (inl k) = inr (inr (inl (eqb-true _ _ k)))
    on_filler (inr k) = inr (inr (inr (eqb-true _ _ k)))

    on_last : ((ident == 22612 || ident == 175) ≡ true) ⊎ (is_filler ident ≡ true) → IsPassedIdent ident
    on_last (inl k) = on_first (one_is (ident == 22612) (ident == 175) k)
    on_last (inr k) = on_filler (one_is (ident == 236) (ident == crc_ident) k)

pub listed_is : (ident size : ℕ) → stands_single ident size ≡ true → IsListed ident size
unfolding is_beside
listed_is ident size h = on_block (one_is (ident == simple_block) (is_beside ident size) h)
  where
    on_number : (b : Bool) → (ident == 231 || ident == 167 || ident == 171) ≡ b → is_beside ident size ≡ true → (IsNumberIdent ident × (size ≤ 8)) ⊎ IsPassedIdent ident
    on_number true p k = inl (numbers ident p, leb-true _ _ (rw p at k))
    on_number false p k = inr (passed_are ident (rw p at k))

    on_block : ((ident == simple_block) ≡ true) ⊎ (is_beside ident size ≡ true) → IsListed ident size
    on_block (inl k) = inl (eqb-true _ _ k)
    on_block (inr k) = inr (on_number (ident == 231 || ident == 167 || ident == 171) refl k)

pub piece_listed : (track : TrackNumbers) (leaf : Leaf) → IsPiece track (Single leaf) → IsListed (number_of leaf.ident) (length (content_text leaf.content))
piece_listed track leaf is = listed_is (number_of leaf.ident) (length (content_text leaf.content)) is.2

pub listed_stands : (ident size : ℕ) → IsListed ident size → stands_single ident size ≡ true
unfolding is_beside is_filler
listed_stands ident size (inl is) = ap (λ k. stands_single k size) is
listed_stands ident size (inr (inl (inl is, few))) = ap (λ k. stands_single k size) is ∙ le-leb _ _ few
listed_stands ident size (inr (inl (inr (inl is), few))) = ap (λ k. stands_single k size) is ∙ le-leb _ _ few
listed_stands ident size (inr (inl (inr (inr is), few))) = ap (λ k. stands_single k size) is ∙ le-leb _ _ few
listed_stands ident size (inr (inr (inl is))) = ap (λ k. stands_single k size) is
listed_stands ident size (inr (inr (inr (inl is)))) = ap (λ k. stands_single k size) is
listed_stands ident size (inr (inr (inr (inr (inl is))))) = ap (λ k. stands_single k size) is
listed_stands ident size (inr (inr (inr (inr (inr is))))) = ap (λ k. stands_single k size) is

pub others_refused : (track : TrackNumbers) (ident size : ℕ) (place : Place) (rest : List ℕ) → (ident == block_group) ≡ false → stands_single ident size ≡ false → cluster_child track ident size place rest ≡ Err (Met fault.BadElement rest)
unfolding cluster_child
others_refused track ident size place rest apart none = on_tests (ident == simple_block) (is_beside ident size) refl refl
  where
    on_tests : (a b : Bool) → (ident == simple_block) ≡ a → is_beside ident size ≡ b → cluster_child track ident size place rest ≡ Err (Met fault.BadElement rest)
    on_tests true b p q = absurd (cc (rw p at none))
    on_tests false true p q = absurd (cc (rw (p, q) at none))
    on_tests false false p q = rw (p, apart, q) refl

-- what may stand in a Cluster does not stand only outside of it
pub listed_inside : (ident size : ℕ) → IsListed ident size → is_outside ident ≡ false
unfolding outside_idents
listed_inside ident size (inl is) = ap is_outside is
listed_inside ident size (inr (inl (inl is, few))) = ap is_outside is
listed_inside ident size (inr (inl (inr (inl is), few))) = ap is_outside is
listed_inside ident size (inr (inl (inr (inr is), few))) = ap is_outside is
listed_inside ident size (inr (inr (inl is))) = ap is_outside is
listed_inside ident size (inr (inr (inr (inl is)))) = ap is_outside is
listed_inside ident size (inr (inr (inr (inr (inl is))))) = ap is_outside is
listed_inside ident size (inr (inr (inr (inr (inr is))))) = ap is_outside is

pub group_inside : (ident : ℕ) → ident ≡ block_group → is_outside ident ≡ false
unfolding outside_idents
group_inside ident is = ap is_outside is

pub crc_inside : (ident : ℕ) → ident ≡ crc_ident → is_outside ident ≡ false
unfolding outside_idents
crc_inside ident is = ap is_outside is

pub piece_inside : (track : TrackNumbers) (p : Piece) → IsPiece track p → is_outside (piece_ident p) ≡ false
piece_inside track (Single l) is = listed_inside (number_of l.ident) (length (content_text l.content)) (listed_is (number_of l.ident) (length (content_text l.content)) is.2)
piece_inside track (Group ident size ls) is = group_inside (number_of ident) is.0.2

pub outside_ends : (track : TrackNumbers) (place : Place) (ident rest : List ℕ) → IsVint ident → length ident ≤ 4 → length ident ≤ place.cluster → is_outside (number_of ident) ≡ true → cluster_read track place (ident ++ rest) ≡ Err (Met fault.BadElement rest)
unfolding cluster_read
outside_ends track place ident rest is few fits there = ap (λ z. read_on z (cluster_rest track place)) (outside_refused is_outside place.cluster place.sum ident rest is few fits there)
