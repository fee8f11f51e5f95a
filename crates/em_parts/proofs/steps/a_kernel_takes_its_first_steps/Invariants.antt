use Rattle.em_parts.proofs.steps.a_kernel_takes_its_first_steps.Given as goal

abbrev pub ghosts-start_of : goal.ghosts-start_of
ghosts-start_of g a = record { name = a.blank.name; parts = a.blank.parts }
