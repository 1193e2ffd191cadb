use Rattle.logs.proofs.read_wide.+part_count.Given as goal

-- proposed from what the function passes where it calls itself
abbrev pub decreases-part_count : goal.decreases-part_count
decreases-part_count l = l.most
