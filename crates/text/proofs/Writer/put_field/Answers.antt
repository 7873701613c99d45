-- The name, then the digits behind it.
use Rattle.std.proofs.Common.{arith}
use Rattle.text.specs.Digits.{numeral}
use Rattle.text.proofs.Writes.{behind}
use Rattle.text.proofs.Numbers.{digits_at_most}
use Rattle.text.proofs.Writer.put_field.Goals as goal

pub put_digits-requires : goal.put_digits-requires
put_digits-requires c = let name = c.put_text.ensures in omega (arith, name.room, name.wrote.place)

pub returns-clause-wrote : goal.returns-clause-wrote
unfolding numeral
returns-clause-wrote c = behind c.put_text.ensures c.put_digits.ensures

pub returns-clause-upper_bound : goal.returns-clause-upper_bound
returns-clause-upper_bound c =
    let name = c.put_text.ensures in
    let number = c.put_digits.ensures in
    omega (arith, digits_at_most c.args.most c.args.n, name.wrote.place, number.wrote.place)
