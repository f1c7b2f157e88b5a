-- Which grids a picture may have, by the checks of its configuration.
use Rattle.std.proofs.Common.{◌≡◌, refl, ℕ, zero, suc, ◌+◌, ◌-◌, ◌*◌, ◌/◌, ◌<◌, ◌≤◌, ◌%◌, ◌^◌, ◌==◌, ◌&&◌, nat_le, nat_lt, Bool, true, inl, inr, ap, sym, subst, ◌∙◌, arith}
use Rattle.std.specs.List.{list_all, range_with_len}
use Rattle.std.proofs.lemmas.Bool.{cases_eq, eq-eqb, eqb-true, le-leb, lt-ltb, ltb-true}
use Rattle.ffv1_record.specs.Accepted.{PassesEdges, are_multiples, edge, reduced}
use Rattle.ffv1_record.specs.Configuration.{Configuration}
use Rattle.ffv1_record.specs.declared.config.Profile.{Profile}
use Rattle.ffv1_record.specs.declared.config.Profile.TheVariants.{Strict, Wide}
use Rattle.ffv1_record.proofs.Edges.{multiples_sound, multiples_complete}
use Rattle.ffv1_words.specs.declared.order.Choice.{Choice}
use Rattle.ffv1_pack.specs.Grids.{has_edges, has_grid, slice_bytes, slice_limit}
use Rattle.ffv1_pack.specs.GridChecks.{AreParts, PassesGrid, with_parts}
use Rattle.ffv1_pack.specs.Packing.{configuration_for}
use Rattle.ffv1_video.specs.Video.{SaidHead}
use Rattle.ffv1_pack.proofs.VideoFits.{both}

and_true : (a b : Bool) → a ≡ true → b ≡ true → (a && b) ≡ true
and_true a b e h = ap (λ x. x && b) e ∙ h

-- ---- edges

-- the last part of a size ends where its plane does
abbrev ends : ℕ → ℕ → ℕ → ℕ
ends size count log2 = edge (count - 1) size count / 2 ^ log2 + reduced log2 (size - edge (count - 1) size count)

module _ (c : Configuration) where
  pub edges_pass : (p : Profile) → (has_edges p c.width c.columns c.log2_h && has_edges p c.height c.rows c.log2_v) ≡ true → PassesEdges p c
  unfolding has_edges
  edges_pass Strict e =
      let all = both (are_multiples c.width c.columns c.log2_h) (are_multiples c.height c.rows c.log2_v) e in
      (multiples_sound c.width c.columns c.log2_h all.0, multiples_sound c.height c.rows c.log2_v all.1)
  edges_pass Wide e =
      let all = both (ends c.width c.columns c.log2_h == reduced c.log2_h c.width) (ends c.height c.rows c.log2_v == reduced c.log2_v c.height) e in
      (eqb-true _ _ all.0, eqb-true _ _ all.1)

  pub pass_edges : (p : Profile) → PassesEdges p c → (has_edges p c.width c.columns c.log2_h && has_edges p c.height c.rows c.log2_v) ≡ true
  unfolding has_edges
  pass_edges Strict e = and_true _ _ (multiples_complete c.width c.columns c.log2_h e.0) (multiples_complete c.height c.rows c.log2_v e.1)
  pass_edges Wide e = and_true _ _ (eq-eqb _ _ e.0) (eq-eqb _ _ e.1)

-- ---- grids

module _ (p : Profile) (choice : Choice) (ppm : Bool) (h : SaidHead) (columns rows : ℕ) (parts : AreParts columns rows) where
  abbrev wide : Bool
  wide = nat_le columns h.head.width

  abbrev high : Bool
  high = nat_le rows h.head.height

  abbrev edges : Bool
  edges = has_edges p h.head.width columns h.head.log2_h && has_edges p h.head.height rows h.head.log2_v

  abbrev with_grid : Configuration
  with_grid = configuration_for (with_parts choice columns rows) ppm h

  abbrev small : Bool
  small = nat_lt (slice_bytes h.depth h.head columns rows) slice_limit

  divided : wide ≡ true → high ≡ true → ((nat_le 1 columns && (nat_le columns 32 && wide)) && (nat_le 1 rows && (nat_le rows 32 && high))) ≡ true
  divided w v =
      and_true _ _ (and_true _ _ (le-leb 1 columns parts.some_columns) (and_true _ _ (le-leb columns 32 parts.few_columns) w))
      (and_true _ _ (le-leb 1 rows parts.some_rows) (and_true _ _ (le-leb rows 32 parts.few_rows) v))

  pub grid_passes : has_grid p h.depth h.head columns rows ≡ true → PassesGrid p with_grid × (slice_bytes h.depth h.head columns rows < slice_limit)
  unfolding has_grid
  grid_passes e =
      let all = both (wide && high) (edges && small) e in
      let sizes = both wide high all.0 in
      let rest = both edges small all.1 in
      ((divided sizes.0 sizes.1, edges_pass with_grid p rest.0), ltb-true _ _ rest.1)

  pub passes_grid : PassesGrid p with_grid × (slice_bytes h.depth h.head columns rows < slice_limit) → has_grid p h.depth h.head columns rows ≡ true
  unfolding has_grid
  passes_grid (passes, few) =
      let all = both (nat_le 1 columns && (nat_le columns 32 && wide)) (nat_le 1 rows && (nat_le rows 32 && high)) passes.0 in
      let w = (both (nat_le columns 32) wide (both (nat_le 1 columns) (nat_le columns 32 && wide) all.0).1).1 in
      let v = (both (nat_le rows 32) high (both (nat_le 1 rows) (nat_le rows 32 && high) all.1).1).1 in
      and_true (wide && high) (edges && small) (and_true wide high w v)
      (and_true edges small (pass_edges with_grid p passes.1) (lt-ltb _ _ few))
