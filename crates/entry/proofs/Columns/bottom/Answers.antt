-- `entry::Columns::bottom` meets its contract.
-- Assumes nothing.
use Rattle.std.proofs.Common.{◌-◌, arith, tests}
use Rattle.bits.proofs.Laws.{bit_zero}
use Rattle.entry.specs.Entry.{cell}
use Rattle.entry.proofs.Parts.{bottom_bits, stepped_none}
use Rattle.entry.proofs.Columns.bottom.Goals as goal

pub returns-then-before-eq0 : goal.returns-then-before-eq0
returns-then-before-eq0 c = λ y h.
    let s = c.args.self in
    let f = s.filling in
    let none = stepped_none c.args.before s.by y c.if-before-eq0.true in
    let bits = bottom_bits f.rules.now.words f.loads.now f.bound s.i s.j c.args.x y s.bottom s.by c.args.before (cell f.rules.now.words f.loads.now f.bound s.i (s.j - 1)) h s.bottoms s.steps c.requires.1 in
    grind (arith, tests, bit_zero)

pub returns-then-x-i : goal.returns-then-x-i
returns-then-x-i c = λ y h.
    let s = c.args.self in
    let f = s.filling in
    let bits = bottom_bits f.rules.now.words f.loads.now f.bound s.i s.j c.args.x y s.bottom s.by c.args.before (cell f.rules.now.words f.loads.now f.bound s.i (s.j - 1)) h s.bottoms s.steps c.requires.1 in
    grind (arith, tests)

pub returns : goal.returns
returns c = λ y h.
    let s = c.args.self in
    let f = s.filling in
    let bits = bottom_bits f.rules.now.words f.loads.now f.bound s.i s.j c.args.x y s.bottom s.by c.args.before (cell f.rules.now.words f.loads.now f.bound s.i (s.j - 1)) h s.bottoms s.steps c.requires.1 in
    grind (arith, tests)
