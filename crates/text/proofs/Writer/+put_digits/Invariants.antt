use Rattle.text.proofs.Writer.+put_digits.Given as goal

-- each call of itself has one digit less at most
abbrev pub decreases-put_digits : goal.decreases-put_digits
decreases-put_digits l = l.most
