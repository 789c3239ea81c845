use Rattle.gpi.proofs.terms.+repeated.Given as goal

abbrev pub decreases-repeated : goal.decreases-repeated
decreases-repeated l = l.n
