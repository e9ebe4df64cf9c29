use Rattle.routing.proofs.layout.DividedBook.+lay.Given as goal

abbrev pub decreases-lay : goal.decreases-lay
decreases-lay g l = l.before
