use Rattle.aml_scan.proofs.lists.scan_within.Given as goal

abbrev pub ghosts-scan_behind : goal.ghosts-scan_behind
ghosts-scan_behind g a = record { before = g.C.ArgumentCounts.counts a.counts.now }
