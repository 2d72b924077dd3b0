-- A call for the tenth of a number. Assumes nothing.
use Rattle.text.proofs.inner.+decimal.Given as goal

abbrev pub decreases-decimal : goal.decreases-decimal
decreases-decimal l = l.n
