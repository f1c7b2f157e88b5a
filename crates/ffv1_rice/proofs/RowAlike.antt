-- A row is coded by the states of its contexts alone.
use Rattle.std.proofs.Common.{◌≡◌, refl, ℕ, zero, suc, ◌+◌, ◌-◌, ◌^◌, ◌<◌, ◌==◌, if◌then◌else◌, Bool, true, false, List, [], ◌∷◌, ◌++◌, Option, Some, None, ap, subst, ◌∙◌, length}
use Rattle.ffv1_plane.specs.Quantisation.{Set, contexts_of}
use Rattle.ffv1_plane.specs.Context.{size_of}
use Rattle.ffv1_plane.specs.declared.prediction.Around.{Around}
use Rattle.ffv1_line.specs.Beside.{beside}
use Rattle.ffv1_rice.specs.declared.state.State.{State}
use Rattle.ffv1_rice.specs.declared.fault.Fault.{Fault}
use Rattle.ffv1_rice.specs.Bits.{binary}
use Rattle.ffv1_rice.specs.Run.{run_log, EndsInRun, LeavesRow}
use Rattle.ffv1_rice.specs.Number.{Ends}
use Rattle.ffv1_rice.specs.States.{parameter}
use Rattle.ffv1_rice.specs.Scalar.{scalar_bits, scalar_after}
use Rattle.ffv1_rice.specs.Row.{Place, Coder, begun, is_zero, shortened, bits_in, place_bits, run_after, after_in, place_after, places_bits, places_after, end_bits, row_bits, places_of, place_at, AreContexts, KnowSame}
use Rattle.ffv1_rice.specs.Rows.{Reading, SoFar, CodesRow, StopsAt, IsNone, RowEnds, RowIsBad, IsRefused, read_by}

-- one place
bits_same : (depth contexts : ℕ) (c d : Coder) (p : Place) (run : Option ℕ) → KnowSame contexts c d → p.context < contexts → bits_in depth c p run ≡ bits_in depth d p run
bits_same depth contexts c d p None same inside = ap (λ s. scalar_bits depth s p.difference) (same.states p.context inside)
bits_same depth contexts c d p (Some n) same inside =
    let bits : ℕ → State → List Bool = λ i s.
    if is_zero p.difference
    then (if suc n == 2 ^ run_log i then true ∷ [] else [])
    else false ∷ (binary (run_log i) n ++ scalar_bits depth s (shortened p.difference)) in
    ap (λ i. bits i (c.states p.context)) same.index ∙ ap (λ s. bits d.index s) (same.states p.context inside)

pub place_bits_same : (depth contexts : ℕ) (c d : Coder) (p : Place) → KnowSame contexts c d → p.context < contexts → place_bits depth c p ≡ place_bits depth d p
place_bits_same depth contexts c d p same inside =
    bits_same depth contexts c d p (begun c.run p.context) same inside ∙ ap (λ r. bits_in depth d p (begun r p.context)) same.run

-- one state is another one
state_same : (contexts context : ℕ) (f g : ℕ → State) (s t : State) → ((k : ℕ) → k < contexts → f k ≡ g k) → s ≡ t →
    (k : ℕ) → k < contexts → (if k == context then s else f k) ≡ (if k == context then t else g k)
state_same contexts context f g s t same is k inside =
    ap (λ z. if k == context then z else f k) is ∙ ap (λ z. if k == context then t else z) (same k inside)

module _ (depth contexts : ℕ) (c d : Coder) (p : Place) (same : KnowSame contexts c d) (inside : p.context < contexts) where
  scalar_same : (z : Bool) → (if z then scalar_after depth (c.states p.context) (shortened p.difference) else scalar_after depth (c.states p.context) p.difference)
      ≡ (if z then scalar_after depth (d.states p.context) (shortened p.difference) else scalar_after depth (d.states p.context) p.difference)
  scalar_same true = ap (λ s. scalar_after depth s (shortened p.difference)) (same.states p.context inside)
  scalar_same false = ap (λ s. scalar_after depth s p.difference) (same.states p.context inside)

  -- what follows in a run, by its two tests
  abbrev follows : Coder → ℕ → Bool → Bool → Coder
  follows e n z w =
      if z
      then (if w
      then record { states = e.states; index = e.index + 1; run = Some 0 }
      else record { states = e.states; index = e.index; run = Some (suc n) })
      else record {
        states = λ k. if k == p.context then scalar_after depth (e.states p.context) (shortened p.difference) else e.states k;
        index = e.index - 1;
        run = None;
      }

  follows_same : (n : ℕ) (z w : Bool) → KnowSame contexts (follows c n z w) (follows d n z w)
  follows_same n true true = record { states = same.states; index = ap (λ i. i + 1) same.index; run = refl }
  follows_same n true false = record { states = same.states; index = same.index; run = refl }
  follows_same n false w = record {
    states = state_same contexts p.context c.states d.states _ _ same.states (scalar_same true);
    index = ap (λ i. i - 1) same.index;
    run = refl;
  }

  after_same : (run : Option ℕ) → KnowSame contexts (after_in depth c p run) (after_in depth d p run)
  after_same None = record {
    states = state_same contexts p.context c.states d.states _ _ same.states (scalar_same false);
    index = same.index;
    run = refl;
  }
  after_same (Some n) =
      subst (λ i. KnowSame contexts (run_after depth c p n) (follows d n (is_zero p.difference) (suc n == 2 ^ run_log i))) same.index
      (follows_same n (is_zero p.difference) (suc n == 2 ^ run_log c.index))

  pub place_after_same : KnowSame contexts (place_after depth c p) (place_after depth d p)
  place_after_same = subst (λ r. KnowSame contexts (place_after depth c p) (after_in depth d p (begun r p.context))) same.run (after_same (begun c.run p.context))

-- some places
pub places_bits_same : (depth contexts : ℕ) (c d : Coder) (ps : List Place) → KnowSame contexts c d → AreContexts contexts ps → places_bits depth c ps ≡ places_bits depth d ps
unfolding places_bits
places_bits_same depth contexts c d [] same are = refl
places_bits_same depth contexts c d (p ∷ ps) same are =
    ap (λ z. z ++ places_bits depth (place_after depth c p) ps) (place_bits_same depth contexts c d p same are.0)
    ∙ ap (λ z. place_bits depth d p ++ z) (places_bits_same depth contexts (place_after depth c p) (place_after depth d p) ps (place_after_same depth contexts c d p same are.0) are.1)

pub places_after_same : (depth contexts : ℕ) (c d : Coder) (ps : List Place) → KnowSame contexts c d → AreContexts contexts ps → KnowSame contexts (places_after depth c ps) (places_after depth d ps)
unfolding places_after
places_after_same depth contexts c d [] same are = same
places_after_same depth contexts c d (p ∷ ps) same are =
    places_after_same depth contexts (place_after depth c p) (place_after depth d p) ps (place_after_same depth contexts c d p same are.0) are.1

pub row_bits_same : (depth contexts : ℕ) (c d : Coder) (ps : List Place) → KnowSame contexts c d → AreContexts contexts ps → row_bits depth c ps ≡ row_bits depth d ps
row_bits_same depth contexts c d ps same are =
    ap (λ z. z ++ end_bits (places_after depth c ps).run) (places_bits_same depth contexts c d ps same are)
    ∙ ap (λ z. places_bits depth d ps ++ end_bits z) (places_after_same depth contexts c d ps same are).run

-- the contexts of a row are those of its set
contexts_more : (contexts : ℕ) (ps : List Place) (p : Place) → AreContexts contexts ps → p.context < contexts → AreContexts contexts (ps ++ (p ∷ []))
contexts_more contexts [] p are inside = (inside, tt)
contexts_more contexts (q ∷ ps) p are inside = (are.0, contexts_more contexts ps p are.1 inside)

pub row_contexts : (set : Set) (depth : ℕ) (two one row : List ℕ) (n : ℕ) → ((a : Around) → size_of set a < contexts_of set) → AreContexts (contexts_of set) (places_of set depth two one row n)
unfolding places_of
row_contexts set depth two one row zero below = tt
row_contexts set depth two one row (suc n) below =
    contexts_more (contexts_of set) (places_of set depth two one row n) (place_at set depth two one row n) (row_contexts set depth two one row n below) (below (beside two one row n))

-- the same bits are refused at the same place
module _ (r : Reading) (d : Coder) (below : (a : Around) → size_of r.set a < contexts_of r.set) (same : KnowSame (contexts_of r.set) r.start d) where
  abbrev n_contexts : ℕ
  n_contexts = contexts_of r.set

  pub coded_same : (row : List ℕ) (rest : List Bool) → CodesRow r row rest → CodesRow (read_by r d) row rest
  coded_same row rest codes = record {
    samples = codes.samples;
    bits = codes.bits ∙ ap (λ z. z ++ rest) (row_bits_same r.depth n_contexts r.start d _ same (row_contexts r.set r.depth r.two r.one row (length row) below));
  }

  -- so far, and what is known there
  record FarSame (row : List ℕ) (x : ℕ) (c : Coder) (rest : List Bool) : Type 0 where
    other : Coder
    so_far : SoFar (read_by r d) row x other rest
    know : KnowSame n_contexts c other

  far_same : (row : List ℕ) (x : ℕ) (c : Coder) (rest : List Bool) → SoFar r row x c rest → FarSame row x c rest
  far_same row x c rest far =
      let ps = places_of r.set r.depth r.two r.one row x in
      let are = row_contexts r.set r.depth r.two r.one row x below in
      record {
        other = places_after r.depth d ps;
        so_far = record { coder = refl; text = far.text ∙ ap (λ z. z ++ rest) (places_bits_same r.depth n_contexts r.start d ps same are) };
        know = subst (λ e. KnowSame n_contexts e (places_after r.depth d ps)) far.coder (places_after_same r.depth n_contexts r.start d ps same are);
      }

  -- what is refused by an index, a run and one state
  abbrev Stop : (ℕ → List Bool → Type 0) → (State → Bool → List Bool → Type 0) → ℕ → Option ℕ → ℕ → State → List Bool → Type 0
  Stop InRun At context run index s text = StopsAt (record { states = λ k. s; index = index; run = run }) context text (InRun index) (At s)

  stop_same : (InRun : ℕ → List Bool → Type 0) (At : State → Bool → List Bool → Type 0) (context : ℕ) (c e : Coder) (text : List Bool) → KnowSame n_contexts c e → context < n_contexts →
      StopsAt c context text (InRun c.index) (At (c.states context)) → StopsAt e context text (InRun e.index) (At (e.states context))
  stop_same InRun At context c e text know inside stops =
      subst (λ run. Stop InRun At context run e.index (e.states context) text) know.run
      (subst (λ i. Stop InRun At context c.run i (e.states context) text) know.index
      (subst (λ s. Stop InRun At context c.run c.index s text) (know.states context inside) stops))

  pub ends_same : (row : List ℕ) (x : ℕ) → RowEnds r row x → RowEnds (read_by r d) row x
  ends_same row x ends =
      let far = far_same row x ends.coder ends.rest ends.so_far in
      record {
        coder = far.other;
        rest = ends.rest;
        so_far = far.so_far;
        ends = stop_same EndsInRun (λ s behind text. Ends r.depth (parameter s) text) (size_of r.set (beside r.two r.one row x)) ends.coder far.other ends.rest far.know (below (beside r.two r.one row x)) ends.ends;
      }

  pub bad_same : (row : List ℕ) (x : ℕ) → RowIsBad r row x → RowIsBad (read_by r d) row x
  bad_same row x bad =
      let far = far_same row x bad.coder bad.rest bad.so_far in
      record {
        coder = far.other;
        rest = bad.rest;
        so_far = far.so_far;
        bad = stop_same (λ i text. LeavesRow i (length row - x) text) (λ s. IsNone r.depth s) (size_of r.set (beside r.two r.one row x)) bad.coder far.other bad.rest far.know (below (beside r.two r.one row x)) bad.bad;
      }

  pub refused_same : (row : List ℕ) (x : ℕ) (reason : Fault) → IsRefused r row x reason → IsRefused (read_by r d) row x reason
  refused_same row x reason refused = record {
    ends = λ is. ends_same row x (refused.ends is);
    bad = λ is. bad_same row x (refused.bad is);
  }
