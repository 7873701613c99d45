-- The assignments of the sheet of two sides of modules are, one to one, the placements without overlap.
-- Assumes nothing.
use Rattle.std.proofs.Common.{◌≡◌, ℕ, ◌≤◌, true, ◌&&◌, List, ◌++◌, length, take, drop, sym, ap, ◌∙◌, ap₂, take-append-drop, take_at, drop_at}
use Rattle.std.proofs.Math.Bool.{and-eq-true_iff}
use Rattle.channel.specs.Assignment.{side_fits, fits, top_columns, bottom_columns, is_assignment}
use Rattle.channel.proofs.Assignments.{side-length}
use Rattle.modules.specs.Modules.{Module, side_terminals, module_sheet, pin_count}
use Rattle.modules.proofs.Terminals.{length-terminals}
use Rattle.modules.proofs.Sound.{SoundModules}
use Rattle.placements.specs.Placements.{is_placed, side_columns, side_edges, Edges, is_placement, sheet_columns, sheet_edges, Matches}
use Rattle.placements.proofs.Sides.{side_matches}

module _ (l : ℕ) (top bottom : List Module) where
  -- an assignment, side by side
  sides :
      (cs : List ℕ)
      → is_assignment (module_sheet l top bottom) cs
      ≡ (side_fits (side_terminals top) (take (pin_count top) cs) && side_fits (side_terminals bottom) (drop (pin_count top) cs))
  unfolding is_assignment fits top_columns bottom_columns
  sides cs = rw (length-terminals top)

  pub sheet_matches : l ≤ 64 → SoundModules l top → SoundModules l bottom → Matches l top bottom
  sheet_matches h st sb = record { columns = there; edges = back }
    where
      there :
          (es : Edges) → is_placement top bottom es ≡ true
          → (is_assignment (module_sheet l top bottom) (sheet_columns top bottom es) ≡ true)
          × (sheet_edges top bottom (sheet_columns top bottom es) ≡ es)
      there es p =
          let (pt, pb) = (and-eq-true_iff (is_placed top es.top) (is_placed bottom es.bottom)).0 p in
          let (ct, et) = (side_matches l top h st).0 es.top pt in
          let (cb, eb) = (side_matches l bottom h sb).0 es.bottom pb in
          let size : length (side_columns top es.top) ≡ pin_count top
          = side-length (side_terminals top) (side_columns top es.top) ct ∙ length-terminals top in
          let front = take_at (side_columns top es.top) (side_columns bottom es.bottom) (pin_count top) size in
          let rest = drop_at (side_columns top es.top) (side_columns bottom es.bottom) (pin_count top) size in (
            sides (sheet_columns top bottom es)
                ∙ ap₂ (λ (x y : List ℕ). side_fits (side_terminals top) x && side_fits (side_terminals bottom) y) front rest
                ∙ (and-eq-true_iff _ _).1 (ct, cb),
            ap₂ (λ (x y : List ℕ). made x y) (ap (side_edges top) front ∙ et) (ap (side_edges bottom) rest ∙ eb),
          )
        where
          made : List ℕ → List ℕ → Edges
          made x y = record { top = x; bottom = y }

      back :
          (cs : List ℕ) → is_assignment (module_sheet l top bottom) cs ≡ true
          → (is_placement top bottom (sheet_edges top bottom cs) ≡ true)
          × (sheet_columns top bottom (sheet_edges top bottom cs) ≡ cs)
      back cs a =
          let (ft, fb) = (and-eq-true_iff (side_fits (side_terminals top) (take (pin_count top) cs))
          (side_fits (side_terminals bottom) (drop (pin_count top) cs))).0 (sym (sides cs) ∙ a) in
          let (pt, ct) = (side_matches l top h st).1 (take (pin_count top) cs) ft in
          let (pb, cb) = (side_matches l bottom h sb).1 (drop (pin_count top) cs) fb in (
            (and-eq-true_iff _ _).1 (pt, pb),
            ap₂ (λ (x y : List ℕ). x ++ y) ct cb ∙ take-append-drop (pin_count top) cs,
          )
