use Rattle.pas_valid.proofs.ground.Ground.+leads_within.Given as goal

-- the steps left
abbrev pub decreases-leads_within : goal.decreases-leads_within
decreases-leads_within l = l.steps
