use Rattle.file_row.proofs.is_heavy.Goals as goal

pub returns : goal.returns
returns c = c.digits_over.ensures
