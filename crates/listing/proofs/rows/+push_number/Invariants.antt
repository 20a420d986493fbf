-- The width falls.
use Rattle.listing.proofs.rows.+push_number.Given as goal

abbrev pub decreases-push_number : goal.decreases-push_number
decreases-push_number l = l.width
