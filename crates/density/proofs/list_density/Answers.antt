-- `density::list_density` meets its contract: the greatest of the counts is the density.
-- Assumes nothing.
use Rattle.std.proofs.Common.{ℕ, ◌<◌, List, sym, ap, ◌∙◌, arith}
use Rattle.std.proofs.Math.Path.{fun_ext}
use Rattle.channel.specs.Density.{maximum_to}
use Rattle.sheet.specs.Sections.{sheet_held}
use Rattle.density.specs.Counted.{counted_at}
use Rattle.density.proofs.Counted.{density_counted}
use Rattle.density.proofs.list_density.Goals as goal

pub returns : goal.returns
returns c =
    let s = c.args.listed.sections in
    let l : ℕ = s.shape.columns in
    let columns = c.args.listed.columns.now in
    let short : l < 255 = omega (arith, c.args.listed.beside.short) in
    let nets = c.deref.ensures.0 ∙ c.list_nets.ensures in
    c.from.ensures
    ∙ c.greatest.ensures
    ∙ ap (maximum_to l)
    (fun_ext (λ (k : ℕ). c.count_nets.ensures k ∙ ap (λ (ns : List ℕ). counted_at s.mark ns columns k) nets))
    ∙ sym (density_counted (sheet_held s) columns short)
