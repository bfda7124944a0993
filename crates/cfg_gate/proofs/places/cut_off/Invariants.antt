use Rattle.cfg_gate.proofs.places.cut_off.Given as goal

abbrev pub ghosts-cut : goal.ghosts-cut
ghosts-cut g a = record { share = a.share }
