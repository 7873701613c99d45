use Rattle.std.proofs.Common.{◌≡◌, ℕ, Bool, ◌&&◌, leb, List, length, sym, ap, ◌∙◌, ap₂, arith}
use Rattle.modules.specs.Modules.{Module, pin_count}
use Rattle.modules.specs.Bytes.{modules_in}
use Rattle.modules.proofs.Lists.{few_modules}
use Rattle.module_check.specs.declared.Tests.{Tests}
use Rattle.module_check.specs.Tests.{all_tests, combined}
use Rattle.module_check.proofs.Combined.{same_tests, all-combined}
use Rattle.module_check.proofs.check_modules.Goals as goal

pub combine-all-requires : goal.combine-all-requires
combine-all-requires c =
    let pins = ap (λ (t : Tests). t.pins) c.loop-m.invariant.0 in
    let here = ap pin_count c.in-Some.ensures.steps in
    let tested = ap (λ (t : Tests). t.pins) c.check_module.ensures in
    omega (arith, (few_modules c.args.side.now).0, pins, here, tested)

pub overflow_add-count : goal.overflow_add-count
overflow_add-count c =
    let here = ap (λ (ms : List Module). length ms) c.in-Some.ensures.steps in
    omega (arith, (few_modules c.args.side.now).1, c.loop-m.invariant.1, here)

pub returns : goal.returns
returns c =
    let a = c.args in
    let all' = c.loop-m.all in
    let side = modules_in a.side.now in
    let none = c.in-None.ensures.steps.0 in
    let all : all' ≡ all_tests a.columns side
    = sym (all-combined a.columns all')
    ∙ ap (λ (ms : List Module). combined all' (all_tests a.columns ms)) (sym none)
    ∙ c.loop-m.invariant.0 in
    let count : c.loop-m.count ≡ length side
    = omega (arith, c.loop-m.invariant.1, ap (λ (ms : List Module). length ms) none) in (
      same_tests (ap (λ (t : Tests). t.pins) all)
          (ap₂ (λ (x : Bool) (n : ℕ). x && leb n 16) (ap (λ (t : Tests). t.valid) all) count)
          (ap (λ (t : Tests). t.within) all) (ap (λ (t : Tests). t.named) all),
      omega (arith, ap (λ (t : Tests). t.pins) all, (few_modules a.side.now).0),
    )
