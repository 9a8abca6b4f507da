-- Requests as a crate above the fold writes them: the record of a request, and what is read of it.
use Rattle.std.specs.Prelude.{ℕ, List, length, None}
use Rattle.jcontent.specs.declared.content.Content.TheVariants as content
use Rattle.out_fold.specs.declared.message.Message.{Message}
use Rattle.out_fold.specs.declared.used.Used.{Used}

-- the request of the cell, with these messages and no reply
abbrev pub request_of : ℕ → List Message → Used
request_of cell messages = record { cell = cell; own = messages; reply = None }

-- a message without a date that says that the kernel is ready
abbrev pub ready : Message
ready = record { content = content.InfoReply; date = None }

-- how many messages were used for the request
abbrev pub count_of : Used → ℕ
count_of u = length u.own
