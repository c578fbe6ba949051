use Rattle.file_write.proofs.text_length.Goals as goal

pub returns : goal.returns
returns c = rw (← c.wide_rows-wide.ensures, ← c.mask_of-mask.ensures) c.file_length.ensures
