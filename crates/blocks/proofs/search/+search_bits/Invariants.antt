-- The measure of search_bits is k, the order.
use Rattle.blocks.proofs.search.+search_bits.Given as goal

abbrev pub decreases-search_bits : goal.decreases-search_bits
decreases-search_bits l = l.k
