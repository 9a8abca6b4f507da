-- Bookkeeping: display ids of messages (Jupyter messaging 5.3, "Display data").
use Rattle.std.specs.Prelude.{ℕ, Bool, List, is_some, Option}
use Rattle.std.specs.Option.{option_and_then}
use Rattle.jcontent.specs.declared.content.Content.{Content}
use Rattle.jcontent.specs.declared.shown.Shown.{Shown}
use Rattle.out_fold.specs.Shown.{shown_in, shows}

-- the display id under which a message shows something, where it has one
abbrev pub name_of : Content → Option (List ℕ)
name_of c = option_and_then (λ (s : Shown). s.id) (shown_in c)

-- the message shows something under this display id
abbrev pub has_id : List ℕ → Content → Bool
has_id id c = is_some (shows id c)
