-- To be believed: which three lists a value of the code's type holds.
use Rattle.c_summary_lists.specs.Columns.{Columns, columns_of}
use Rattle.c_summary_lists.specs.declared.Lists.{Lists}

abbrev pub columns_in : Lists → Columns
columns_in l = columns_of l.need.now l.climb.now l.change.now
