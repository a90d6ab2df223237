-- The measure of the recursion is k, the order.
use Rattle.blocks.proofs.search.+search.Given as goal

abbrev pub decreases-search : goal.decreases-search
decreases-search l = l.k
