-- `module_sheet::make` meets its contract: a refusal leaves the buffer, and what is written is the sheet meant.
-- Assumes nothing.
use Rattle.std.proofs.Common.{length, sym, ap, inl, inr, arith, rules, le-leb}
use Rattle.std.proofs.lemmas.Bool.{lt-leb}
use Rattle.modules.specs.Bytes.{modules_in}
use Rattle.module_check.specs.declared.Tests.{Tests}
use Rattle.made.specs.Numbers.{number_of}
use Rattle.module_sheet.specs.Answer.{answer_in}
use Rattle.module_sheet.proofs.Accepted.{Accepted, accepted, all_writable}
use Rattle.module_sheet.proofs.Making.{made_of_lem, module_number_some, makes_none, makes_sheet}
use Rattle.module_sheet.proofs.make.Goals as goal

-- 3
pub returns-then-columns-eq0 : goal.returns-then-columns-eq0
unfolding answer_in
returns-then-columns-eq0 c =
    let l = c.args.columns in
    makes_none _ _ _ _ _
    (elim c.then-columns-eq0.either [
      | inl zero ↦ rw (lt-leb 1 l (omega (arith, zero)))
      | inr more ↦ rw (le-leb 1 l (omega (arith, more.1)), lt-leb l 64 more.1)
    ])
    (λ e. omega arith)

-- a sheet is written only where nothing is refused
pub put_sheet-requires : goal.put_sheet-requires
put_sheet-requires c =
    let a = c.args in
    let answer = made_of_lem _ _ _ _ _ _ _ _ (omega (arith, c.if-columns-eq0.false)) c.if-columns-gt64.false c.check_modules-over.ensures.0
    c.check_modules-under.ensures.0 c.combine.ensures c.in_ok-size.ensures in
    let ok : Accepted c.args.columns (modules_in c.args.top.now) (modules_in c.args.bottom.now) (length c.args.sheet.now)
    = accepted _ _ _ _ (ap number_of (sym answer)) in
    let top = ap (λ (t : Tests). t.pins) c.check_modules-over.ensures.0 in
    let bottom = ap (λ (t : Tests). t.pins) c.check_modules-under.ensures.0 in (
      all_writable a.columns ok.columns.1 (modules_in a.top.now) ok.valid.0 ok.within.0,
      all_writable a.columns ok.columns.1 (modules_in a.bottom.now) ok.valid.1 ok.within.1,
      omega (arith, top, ok.counts.0),
      omega (arith, top, bottom, ok.size),
    )

pub returns : goal.returns
returns c =
    let answer = made_of_lem _ _ _ _ _ _ _ _ (omega (arith, c.if-columns-eq0.false)) c.if-columns-gt64.false c.check_modules-over.ensures.0
    c.check_modules-under.ensures.0 c.combine.ensures c.in_ok-size.ensures in
    let ok : Accepted c.args.columns (modules_in c.args.top.now) (modules_in c.args.bottom.now) (length c.args.sheet.now)
    = accepted _ _ _ _ (ap number_of (sym answer)) in
    makes_sheet _ _ _ _ _ _ _ (λ i. (c.type_inv.top i).fits) (λ i. (c.type_inv.bottom i).fits) answer ok c.put_sheet.ensures

pub returns-in_err-size : goal.returns-in_err-size
returns-in_err-size c =
    let answer = made_of_lem _ _ _ _ _ _ _ _ (omega (arith, c.if-columns-eq0.false)) c.if-columns-gt64.false c.check_modules-over.ensures.0
    c.check_modules-under.ensures.0 c.combine.ensures c.in_err-size.ensures in
    let none = makes_none _ _ _ _ _ answer (module_number_some _) in search rules
