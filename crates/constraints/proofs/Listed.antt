-- The pins of a side put into a row, and the two sides of a list.
-- Assumes nothing.
use Rattle.std.proofs.Common.{◌≡◌, ℕ, List, [], ◌∷◌, length, refl, sym, ap₂, take, drop, ◌++◌, ◌-◌, take_all, length-drop, arith, ◌∙◌, ◌⊎◌, inl, inr}
use Rattle.std.proofs.Math.Seq.{take-append_seam, drop-append_seam}
use Rattle.std.proofs.Math.ListN.{length-map}
use Rattle.std.proofs.lemmas.List.{map-append}
use Rattle.mark.specs.declared.Mark.{Mark}
use Rattle.channel.specs.Sheet.{Terminal, sheet_with, nets}
use Rattle.channel.specs.Assignment.{top_columns, bottom_columns}
use Rattle.ends.specs.Ends.{pins_of}
use Rattle.ends.proofs.Pins.{pins-nets}
use Rattle.constraints.specs.Listed.{net_at, constraints_in, constraints_of}

-- the nets or the columns have ended
pub pins-end : (ns cs : List ℕ) → (length ns ≡ 0) ⊎ (length cs ≡ 0) → pins_of ns cs ≡ []
pins-end [] cs e = refl
pins-end (n ∷ ns) [] e = refl
pins-end (n ∷ ns) (c ∷ cs) (inl e) = absurd (omega arith)
pins-end (n ∷ ns) (c ∷ cs) (inr e) = absurd (omega arith)

-- the constraints of a list of nets and columns whose first p are those of the top
module _ (m : Mark) (l : ℕ) (ts us : List Terminal) (cs : List ℕ) where
  abbrev both_nets : List ℕ
  both_nets = nets (ts ++ us)

  top_nets : take (length ts) both_nets ≡ nets ts
  top_nets =
      ap₂ (λ (n : ℕ) (ns : List ℕ). take n ns) (sym (length-map ts (λ (t : Terminal). t.net))) (map-append (λ (t : Terminal). t.net) ts us)
      ∙ take-append_seam (nets ts) (nets us)

  bottom_nets : drop (length ts) both_nets ≡ nets us
  bottom_nets =
      ap₂ (λ (n : ℕ) (ns : List ℕ). drop n ns) (sym (length-map ts (λ (t : Terminal). t.net))) (map-append (λ (t : Terminal). t.net) ts us)
      ∙ drop-append_seam (nets ts) (nets us)

  rest : (p : ℕ) (xs : List ℕ) → take (length xs - p) (drop p xs) ≡ drop p xs
  rest p xs = take_all (length xs - p) (drop p xs) (rw length-drop (omega arith))

  pub side_by_side :
      (p : ℕ) → p ≡ length ts
      → constraints_in both_nets (pins_of (take p both_nets) (take p cs))
      (net_at (pins_of (take (length both_nets - p) (drop p both_nets)) (take (length cs - p) (drop p cs))))
      ≡ constraints_of (sheet_with m l ts us) cs
  unfolding constraints_of top_columns bottom_columns
  side_by_side p e =
      rw (rest p both_nets, rest p cs, e, top_nets, bottom_nets, pins-nets ts (take (length ts) cs), pins-nets us (drop (length ts) cs))
      refl
