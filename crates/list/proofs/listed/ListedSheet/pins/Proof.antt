-- `ListedSheet::pins` meets its contract: it hands on what `pins_by_room` gives, whose contract says the same with the room first. This goes
-- through the code step by step, since the borrow checker shows what is left of a loan only where the first parameter is lent.
-- Assumes nothing.
use Rattle.std.proofs.Common.{[], ◌∷◌, refl}
use Rattle.std.proofs.raw_atomic.Walks.{proved, leaves}
use mir.Syntax.{named}
use base.Logic.{id⊢}
use base.Fml.{ftrue, flft}
use contract.Running.{tables}
use types.Kit.{‵, raw, ◌⊛◌, some, later, ◌$◌, ◌∵◌, !, qed, by, move, drop, use2, use1, split, join, pick, await, fjoin}
use types.Run.{enter, of_opd, addr, stop, no_more, and_then, returns}
use types.ByLocal.{alloc_all, pass_all, free_all, look_at, get, through, sets, lands_as}
use denote.Builtin.{u16, unit}
use denote.Exit.{yes, no}
use denote.Param.{number}
use denote.RattleType.{RattleType}
use denote.Ref.{MutRef, mut_vals, mut_Tells}
use denote.Signature.{plain, named_lft}
use denote.Laws.{shows}
use denote.Steps.{nothing, peeks}
use denote.Triple.Call.{calls_at}
use denote.Triple.Clauses.{Lasts, lasts, at_exit}
use denote.Triple.Spec.{triple_of}
use denote.Triple.Table.{framed}
use denote.Triple.Walked.{Stays, stay_dropped, Goes-dropped, Goes-spent_ref, walk_of}
use Rattle.arrayvec.specs.contracts.array_vec.ArrayVec as room
use Rattle.ends.specs.contracts.PinList as pin_list
use Rattle.ends.proofs.PinList.TheLaws as pin_list_laws
use Rattle.list.specs.contracts.listed.ListedSheet as listed_sheet
use Rattle.list.proofs.listed.ListedSheet.TheLaws as listed_laws
use Rattle.list.specs.contracts.listed.ListedSheet.pins as f
use Rattle.list.proofs.listed.ListedSheet.pins.Statement.{statement}
use Rattle.list.proofs.listed.ListedSheet.pins.Code as code
use Rattle.list.specs.contracts.listed.pins_by_room as g
use Rattle.list.proofs.listed.pins_by_room.Met.{met}

-- the type of the room
abbrev Room : RattleType
Room = room.the_row u16 (number 128) unit

-- nothing is left of either parameter: the list is a copy, and the room goes into the pins
abbrev stayed : Stays f.ended.signature.params f.ended.kept
stayed = (stay_dropped _ yes, (stay_dropped _ no, tt))

pub pins_spec : {M : Type 1} → statement M
pins_spec 𝓤 𝓛 𝓜 𝓡 wired =
    let c = f.clauses 𝓛 𝓜.mem 𝓡.returns in
    proved 𝓛 f.ended stayed c 𝓜 𝓡
    (Goes-dropped 𝓛 1 (plain (λ κs. listed_sheet.the_row (named_lft 1 0 tt κs))) yes (λ κs x w. refl), (Goes-spent_ref 𝓛 1 (0 ∷ []) tt (plain (λ _. Room)), tt))
    f.Key.name code.function (code.unfolded 𝓤 𝓛.H 𝓜 𝓡 wired)
    (λ κs. (λ d. listed_laws.lowered d ∷ [], (mut_vals, tt)))
    (λ κs. ((listed_laws.lowers (named_lft 1 0 tt κs)).val_is, (mut_Tells (named 0) κs.0 Room, tt)))
    (λ κs qs bounds a _ are.
    let κ = κs.0 in let q = qs.0 in let α = named_lft 1 0 tt κs in
    let G = triple_of 𝓛 g.signature (g.spec 𝓛 𝓜.mem 𝓡.returns) in
    let y : (walk_of 𝓛 f.ended stayed c).Ghost = ((κs, qs, bounds, a, (listed_laws.lowered a.0 ∷ [], (mut_vals a.1.0, tt))), tt) in
    let z : G.Ghost = ((κs, qs, bounds, (a.1.0, (a.0, tt)), (mut_vals a.1.0, (listed_laws.lowered a.0 ∷ [], tt))), tt) in
    let typed = ((listed_laws.the_row_laws α).lawful 𝓛).typed a.0 (listed_laws.lowered a.0 ∷ []) are.0 in
    let Self = (listed_sheet.the_row α).own_val a.0 (listed_laws.lowered a.0 ∷ []) in
    let Lent = (MutRef (named 0) κ Room).own_val a.1.0 (mut_vals a.1.0) in
    let Held = λ (r : (pin_list.the_row α).Denot). (c κs a).ensures tt r (at_exit f.ended κs a (tt, (tt, tt))) in
    qed 𝓛 (((‵ (flft κ q) ⊛ ‵ ftrue) ⊛ ‵ Self ⊛ ‵ Lent ⊛ ‵ ftrue) ∷ ‵ ftrue ∷ []) ∵
    split ! $ move ! (1 ∷ []) $ split ! $ move ! (1 ∷ []) $ split ! $
    -- [the room; nothing; the list; the tokens; nothing]
    move ! (2 ∷ 1 ∷ []) $ join ! $ move ! (1 ∷ 0 ∷ []) $ join ! $ move ! (1 ∷ 0 ∷ []) $ join ! $
    use2 𝓛 (raw (G.pre z)) (id⊢ 𝓤 _) $
    enter ! _ _ _ _ _ $ alloc_all ! (λ l. pass_all ! refl (typed.0, ((tt, tt), tt)) $
    sets ! (addr ! (through ! refl (stop !))) refl (tt, tt) $
    sets ! (of_opd ! (get ! refl)) refl typed.0 $
    calls_at ! (framed 𝓤 𝓛.H 𝓜 (tables 𝓤 𝓛.H 𝓜 𝓡 𝓡.env)) G (met 𝓤 𝓛 𝓜 𝓡 (code.calls-list::listed::pins_by_room 𝓡.env wired)) z
    (and_then ! (get ! refl) (and_then ! (get ! refl) (no_more !))) (λ v.
    use1 𝓛 (later (some (λ (r : (pin_list.the_row α).Denot). ((‵ (flft κ q) ⊛ ‵ ftrue) ⊛ ‵ ((pin_list.the_row α).own_val r (v ∷ []))) ⊛
    some (λ (ws : Lasts g.ended κs (a.1.0, (a.0, tt))). ‵ (lasts g.ended κs (a.1.0, (a.0, tt)) ws) ⊛ raw (Held r))))) (id⊢ 𝓤 _) $
    await ! tt $ pick ! (λ r. split ! $ split ! $ move ! (2 ∷ []) $ pick ! (λ ws. split ! $ drop ! $ move ! (2 ∷ []) $
    -- [the pins; what holds of them; the tokens]
    peeks ! (pin_list.the_row α) _ (shows 𝓛 (pin_list.the_row α)) r (v ∷ []) (λ is.
    lands_as ! refl refl (((pin_list_laws.the_row_laws α).lawful 𝓛).typed r (v ∷ []) is).0 $
    returns ! (look_at ! 0 refl) $ free_all ! refl $ move ! (2 ∷ []) $
    nothing ! $ nothing ! $ fjoin ! $ nothing ! $ fjoin ! $ move ! (1 ∷ []) $
    by ! (leaves 𝓛 f.ended stayed c y v r (tt, (tt, tt)) (tt, (tt, tt)))))))))
