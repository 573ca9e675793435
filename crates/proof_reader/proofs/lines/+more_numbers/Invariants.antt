use Rattle.proof_reader.proofs.lines.+more_numbers.Given as goal

abbrev pub decreases-more_numbers : goal.decreases-more_numbers
decreases-more_numbers l = l.count
