-- Cells whose messages were read: what is saved of them has its place in a notebook (nbformat 4.5 schema).
use Rattle.std.specs.Prelude.{List}
use Rattle.std.specs.List.{All}
use Rattle.jcontent.specs.IsRead.{IsRead}
use Rattle.out_fold.specs.Cells.{Used, all_contents}

-- the contents of all these requests were read of messages
abbrev pub AreRead : List Used → Type 0
AreRead us = All IsRead (all_contents us)
