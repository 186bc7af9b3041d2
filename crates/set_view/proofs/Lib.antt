mod ComputedRuns
