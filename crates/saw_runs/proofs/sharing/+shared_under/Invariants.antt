use Rattle.saw_runs.proofs.sharing.+shared_under.Given as goal

abbrev pub decreases-shared_under : goal.decreases-shared_under
decreases-shared_under g l = l.levels
