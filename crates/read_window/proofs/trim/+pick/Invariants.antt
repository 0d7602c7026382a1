use Rattle.read_window.proofs.trim.+pick.Given as goal

-- Each call clears a bit.
abbrev pub decreases-pick : goal.decreases-pick
decreases-pick l = l.v.mask
