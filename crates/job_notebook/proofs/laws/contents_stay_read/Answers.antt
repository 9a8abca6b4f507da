use Rattle.std.proofs.lemmas.List.Elements.{All-nil}
use Rattle.jcontent.specs.IsRead.{IsRead}
use Rattle.job_notebook.proofs.ReadLemmas.{begun_read, message_read, reply_read}
use Rattle.job_notebook.proofs.laws.contents_stay_read.Goals as goal

pub returns-clause-begun : goal.returns-clause-begun
returns-clause-begun c us cell read = begun_read us cell read

pub returns-clause-used : goal.returns-clause-used
returns-clause-used c us u content date is read = message_read us u content date is read

pub returns-clause-replied : goal.returns-clause-replied
returns-clause-replied c us u date read = reply_read us u date read

pub returns-clause-none : goal.returns-clause-none
returns-clause-none c = All-nil IsRead
