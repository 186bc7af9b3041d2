mod ComputedEnds
