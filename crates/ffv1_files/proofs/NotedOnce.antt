-- What is noted of an AVI is told by its bytes: its chunks end in one place.
use Rattle.std.proofs.Common.{◌≡◌, ◌⊎◌, ◌==◌, if◌then◌else◌, ◌++◌, ℕ, Bool, true, false, Option, Some, None, Ok, List, [], ◌∷◌, inl, inr, refl, sym, ap, ◌∙◌, subst, append_assoc}
use Rattle.ffv1_reads.specs.Head.{Head}
use Rattle.ffv1_reads.specs.Offsets.{Leads, ReadsWhole, all_bytes}
use Rattle.ffv1_reads.specs.Reads.{Reading, given, read_on}
use Rattle.ffv1_reads.proofs.Results.{ok_is}
use Rattle.ffv1_avi.specs.Behind.{IsOver}
use Rattle.ffv1_avi.specs.Files.{riff_begun}
use Rattle.ffv1_avi.specs.Names.{rule_of}
use Rattle.ffv1_avi.specs.declared.place.Open.{Open}
use Rattle.ffv1_avi.specs.declared.place.Open.TheVariants.{Sized, OpenRiff, OpenMovi}
use Rattle.ffv1_avi.specs.Offsets.{BeforeFrames, InRiff, Spot, Start, beyond_taken, chunk_taken, movi_taken, open_taken, riff_next, riff_taken, spot_taken}
use Rattle.ffv1_avi.specs.Places.{ended, extent_of, is_open}
use Rattle.ffv1_avi.specs.Walk.{entry_in, entry_read}
use Rattle.ffv1_avi.specs.declared.place.Extent.{Extent}
use Rattle.ffv1_avi.specs.declared.place.Extent.TheVariants.{FirstMovi, EveryRiff}
use Rattle.ffv1_avi.specs.declared.place.Place.{Place as AviPlace}
use Rattle.ffv1_files.specs.Noted.{RiffsEnd, repeated_in, stands_after}
use Rattle.ffv1_files.specs.declared.notes.Notes.{Notes}

-- elements are read up to where they stop, after which none of them comes to another such place
module _ {S : Type 0} (element : S → Reading S) (Stop : S → List ℕ → Type 0) (Dead : S → Type 0)
    (stops : (s next : S) (text more : List ℕ) → Stop s text → element s text ≡ Ok (next, more) → ((next ≡ s) × (more ≡ text)) ⊎ Dead next)
    (stays : (s next : S) (text more : List ℕ) → Dead s → element s text ≡ Ok (next, more) → Dead next)
    (never : (s : S) (text : List ℕ) → Dead s → Stop s text → ⊥) where
  dead_leads : (s : S) (elements : List (List ℕ)) (to : S) → Dead s → Leads element s elements to → Dead to
  dead_leads s [] to dead same = subst Dead (sym same) dead
  dead_leads s (b ∷ bs) to dead (next, one, others) = dead_leads next bs to (stays s next (b ++ []) [] dead (one [])) others

  first_read : (s next : S) (b : List ℕ) (bs : List (List ℕ)) (text left : List ℕ) → ((rest : List ℕ) → element s (b ++ rest) ≡ Ok (next, rest)) → text ≡ all_bytes (b ∷ bs) ++ left → element s text ≡ Ok (next, all_bytes bs ++ left)
  first_read s next b bs text left one is = ap (element s) (is ∙ append_assoc b (all_bytes bs) left) ∙ one (all_bytes bs ++ left)

  stop_leads : (s : S) (elements : List (List ℕ)) (to : S) (text left : List ℕ) → Stop s text → Leads element s elements to → text ≡ all_bytes elements ++ left → Stop to left → (to ≡ s) × (left ≡ text)
  stop_leads s [] to text left stop same is last = (same, sym is)
  stop_leads s (b ∷ bs) to text left stop (next, one, others) is last = on (stops s next text (all_bytes bs ++ left) stop (first_read s next b bs text left one is)) (stop_leads s bs to text left stop)
    where
      on : ((next ≡ s) × (all_bytes bs ++ left ≡ text)) ⊎ Dead next → (Leads element s bs to → text ≡ all_bytes bs ++ left → Stop to left → (to ≡ s) × (left ≡ text)) → (to ≡ s) × (left ≡ text)
      on (inl (same, more)) again = again (subst (λ z. Leads element z bs to) same others) (sym more) last
      on (inr dead) again = absurd (never to left (dead_leads next bs to dead others) last)

  leads_once : (s : S) (elements : List (List ℕ)) (to : S) (others : List (List ℕ)) (end : S) (text left rest : List ℕ) → Leads element s elements to → text ≡ all_bytes elements ++ left → Stop to left → Leads element s others end → text ≡ all_bytes others ++ rest → Stop end rest → (to ≡ end) × (left ≡ rest)
  leads_once s [] to others end text left rest same is stop leads are last =
      let here : Stop s text = subst (λ z. Stop z text) same (subst (λ z. Stop to z) (sym is) stop) in
      let there = stop_leads s others end text rest here leads are last in
      (same ∙ sym there.0, sym is ∙ sym there.1)
  leads_once s (b ∷ bs) to [] end text left rest leads is stop same are last =
      let here : Stop s text = subst (λ z. Stop z text) same (subst (λ z. Stop end z) (sym are) last) in
      let there = stop_leads s (b ∷ bs) to text left here leads is stop in
      (there.0 ∙ sym same, there.1 ∙ are)
  leads_once s (b ∷ bs) to (c ∷ cs) end text left rest (next, one, more) is stop (after, other, many) are last =
      let both = ok_is (next, all_bytes bs ++ left) (after, all_bytes cs ++ rest) (sym (first_read s next b bs text left one is) ∙ first_read s after c cs text rest other are) in
      let place : next ≡ after = ap (λ (z : S × List ℕ). z.0) both in
      leads_once next bs to cs end (all_bytes bs ++ left) left rest more refl stop (subst (λ z. Leads element z cs end) (sym place) many) (ap (λ (z : S × List ℕ). z.1) both) last

  pub reads_once : {from to end : S} {m n : ℕ} (text left rest : List ℕ) → ReadsWhole element from (Some text) (Some left) to m → Stop to left → ReadsWhole element from (Some text) (Some rest) end n → Stop end rest → (to ≡ end) × (left ≡ rest)
  reads_once {from = from} {to = to} {end = end} text left rest h stop k last = leads_once from h.elements to k.elements end text left rest h.leads h.consumed stop k.leads k.consumed last

-- the frames of an AVI begin in one place
abbrev Begun : Spot → List ℕ → Type 0
Begun (BeforeFrames head place) text = Unit {0}
Begun Start text = ⊥
Begun (InRiff said found left) text = ⊥

abbrev Nowhere : Spot → Type 0
Nowhere s = ⊥

begun_stops : (s next : Spot) (text more : List ℕ) → Begun s text → spot_taken EveryRiff s text ≡ Ok (next, more) → ((next ≡ s) × (more ≡ text)) ⊎ Nowhere next
unfolding spot_taken
begun_stops (BeforeFrames head place) next text more begun h =
    let both = ok_is (BeforeFrames head place, text) (next, more) h in
    inl (sym (ap (λ (z : Spot × List ℕ). z.0) both), sym (ap (λ (z : Spot × List ℕ). z.1) both))
begun_stops Start next text more begun h = absurd begun
begun_stops (InRiff said found left) next text more begun h = absurd begun

-- and they end in one
pub record Over (s : AviPlace) (text : List ℕ) : Type 0 where
  pub movi : s.movi ≡ 0
  pub riff : s.open_in ≡ Sized → s.riff ≡ 0
  pub every : extent_of s ≡ EveryRiff
  pub rest : List ℕ
  pub over : IsOver s.open_in s text rest

abbrev Ended : AviPlace → Type 0
Ended s = s ≡ ended

no_extent : ◌≡◌ {A = Extent} FirstMovi EveryRiff → ⊥
no_extent e = absurd (cc)

has_input : (s : AviPlace) → extent_of s ≡ EveryRiff → (s.input == 0) ≡ false
has_input s every = on (s.input == 0) refl
  where
    on : (b : Bool) → (s.input == 0) ≡ b → b ≡ false
    on true is = absurd (no_extent (rw is at every))
    on false is = refl

over_stops : (s next : AviPlace) (text more : List ℕ) → Over s text → chunk_taken s text ≡ Ok (next, more) → ((next ≡ s) × (more ≡ text)) ⊎ Ended next
unfolding chunk_taken entry_in
over_stops s next text more h read =
    let first : entry_in (rule_of s.names) s.movi text ≡ Ok (None, text) = ap (λ n. entry_in (rule_of s.names) n text) h.movi in
    let there : chunk_taken s text ≡ Ok (ended, h.rest) =
    ap (λ z. read_on z (movi_taken s)) first
    ∙ ap (λ b. (if b then given s else beyond_taken s.open_in s) text) (has_input s h.every)
    ∙ beyond s.open_in h.riff h.over in
    inr (sym (ap (λ (z : AviPlace × List ℕ). z.0) (ok_is (ended, h.rest) (next, more) (sym there ∙ read))))
  where
    beyond : (o : Open) → (o ≡ Sized → s.riff ≡ 0) → IsOver o s text h.rest → beyond_taken o s text ≡ Ok (ended, h.rest)
    beyond Sized riff over = ap (λ n. read_on (entry_read n text) (riff_taken s)) (riff refl) ∙ ap (λ z. read_on z riff_next) over
    beyond OpenRiff riff over = ap (λ z. read_on z open_taken) over
    beyond OpenMovi riff over = ap (λ z. read_on z open_taken) over

ended_stays : (s next : AviPlace) (text more : List ℕ) → Ended s → chunk_taken s text ≡ Ok (next, more) → Ended next
unfolding chunk_taken entry_in riff_begun
ended_stays s next text more is read =
    let there : chunk_taken ended text ≡ Ok (ended, text) = refl in
    sym (ap (λ (z : AviPlace × List ℕ). z.0) (ok_is (ended, text) (next, more) (sym there ∙ ap (λ z. chunk_taken z text) (sym is) ∙ read)))

ended_never : (s : AviPlace) (text : List ℕ) → Ended s → Over s text → ⊥
ended_never s text is h = no_extent (sym (ap (λ (z : AviPlace). extent_of z) is) ∙ h.every)

pub riffs_once : (file rest left : List ℕ) (notes others : Notes) → RiffsEnd file rest notes → RiffsEnd file left others → (notes ≡ others) × (rest ≡ left)
riffs_once file rest left notes others h k = on_between h.chunks.between k.chunks.between h.chunks.opened h.chunks.framed k.chunks.opened k.chunks.framed
  where
    there : Over h.to h.behind
    there = record { movi = h.movi; riff = h.riff; every = h.every; rest = rest; over = h.over }

    here : Over k.to k.behind
    here = record { movi = k.movi; riff = k.riff; every = k.every; rest = left; over = k.over }

    same_place : AviPlace → Spot → AviPlace
    same_place other (BeforeFrames head place) = place
    same_place other Start = other
    same_place other (InRiff said found n) = other

    on_between : (a b : Option (List ℕ)) → ReadsWhole (spot_taken EveryRiff) Start (Some file) a (BeforeFrames h.head h.chunks.first) h.chunks.before → ReadsWhole chunk_taken h.chunks.first a (Some h.behind) h.to h.chunks.after →
        ReadsWhole (spot_taken EveryRiff) Start (Some file) b (BeforeFrames k.head k.chunks.first) k.chunks.before → ReadsWhole chunk_taken k.chunks.first b (Some k.behind) k.to k.chunks.after → (notes ≡ others) × (rest ≡ left)
    on_between None b one first two second = absurd one.consumed
    on_between (Some a) None one first two second = absurd two.consumed
    on_between (Some a) (Some b) one first two second =
        let begins = reads_once (spot_taken EveryRiff) Begun Nowhere begun_stops (λ s next text more dead is. absurd dead) (λ s text dead is. absurd dead) file a b one tt two tt in
        let place : h.chunks.first ≡ k.chunks.first = ap (same_place h.chunks.first) begins.0 in
        let moved : ReadsWhole chunk_taken h.chunks.first (Some a) (Some k.behind) k.to k.chunks.after = rw (place, begins.1) second in
        let end = reads_once chunk_taken Over Ended over_stops ended_stays ended_never a h.behind k.behind first there moved here in
        let gives = ok_is ((h.head, h.frames), rest) ((k.head, k.frames), left) (sym h.gives ∙ k.gives) in
        let others : h.others ≡ k.others = ap (λ (z : ℕ × List ℕ). z.0) (ok_is (h.others, h.begun) (k.others, k.begun) (sym h.counts ∙ k.counts)) in
        let frames : h.frames ≡ k.frames = ap (λ (z : (Head × List (List ℕ)) × List ℕ). z.0.1) gives in (
          h.notes_are
              ∙ ap (λ (n : ℕ). record { is_open = is_open h.to.open_in; others = n; times = None; repeated = repeated_in h.frames; after = stands_after file h.behind }) others
              ∙ ap (λ (z : List (List ℕ)). record { is_open = is_open h.to.open_in; others = k.others; times = None; repeated = repeated_in z; after = stands_after file h.behind }) frames
              ∙ ap (λ (z : List ℕ). record { is_open = is_open h.to.open_in; others = k.others; times = None; repeated = repeated_in k.frames; after = stands_after file z }) end.1
              ∙ ap (λ (p : AviPlace). record { is_open = is_open p.open_in; others = k.others; times = None; repeated = repeated_in k.frames; after = stands_after file k.behind }) end.0
              ∙ sym k.notes_are,
          ap (λ (z : (Head × List (List ℕ)) × List ℕ). z.1) gives,
        )
