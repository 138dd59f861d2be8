-- Each call is of a smaller number.
use Rattle.pictures.proofs.sizes.+digits.Given as goal

abbrev pub decreases-digits : goal.decreases-digits
decreases-digits l = l.n
