-- A side of modules has a terminal for each pin.
-- Assumes nothing.
use Rattle.std.proofs.Common.{◌≡◌, ℕ, suc, Bool, false, List, [], ◌∷◌, length, refl, ap, ◌∙◌, arith, length-append}
use Rattle.modules.specs.declared.Pin.{Pin}
use Rattle.modules.specs.Modules.{Module, pin_count, gap_of, inner_terminals, pin_terminals, module_terminals, terminals_behind}
use Rattle.modules.specs.Modules.{side_terminals}

pub length_inner : (edges before : ℕ) (ps : List Pin) → length (inner_terminals edges before ps) ≡ length ps
length_inner edges before [] = refl
length_inner edges before (p ∷ ps) = ap suc (length_inner edges p.offset ps)

length-pins : (edges least greatest : ℕ) (ps : List Pin) → length (pin_terminals edges least greatest ps) ≡ length ps
length-pins edges least greatest [] = refl
length-pins edges least greatest (p ∷ ps) = ap suc (length_inner edges p.offset ps)

pub length-behind : (is_first : Bool) (gap : ℕ) (ms : List Module) → length (terminals_behind is_first gap ms) ≡ pin_count ms
length-behind is_first gap [] = refl
length-behind is_first gap (m ∷ ms) =
    let pins : length (module_terminals is_first gap m) ≡ length m.pins = length-pins _ _ _ m.pins in
    let rest : length (terminals_behind false (gap_of m) ms) ≡ pin_count ms = length-behind false (gap_of m) ms in
    length-append (module_terminals is_first gap m) (terminals_behind false (gap_of m) ms) ∙ omega arith

pub length-terminals : (ms : List Module) → length (side_terminals ms) ≡ pin_count ms
length-terminals ms = length-behind _ 0 ms
