-- Messages whose contents were read.
use Rattle.std.proofs.Common.{ℕ, List, [], ◌∷◌, ◌++◌, Option, sym, ◌∙◌, subst, append-nil}
use Rattle.std.specs.List.{All}
use Rattle.std.proofs.lemmas.List.Elements.{All-push}
use Rattle.jcontent.specs.declared.content.Content.{Content}
use Rattle.jcontent.specs.IsRead.{IsRead}
use Rattle.out_fold.specs.Cells.{begin, with_message, with_reply, all_contents}
use Rattle.out_fold.specs.declared.used.Used.{Used}
use Rattle.out_fold.specs.Fit.{AreRead}
use Rattle.out_fold.proofs.CellLemmas.{all-message, all-reply, all-snoc}

pub begun_read : (us : List Used) (cell : ℕ) → AreRead us → AreRead (us ++ begin cell ∷ [])
begun_read us cell read = subst (All IsRead) (sym (all-snoc us (begin cell) ∙ append-nil (all_contents us))) read

pub message_read : (us : List Used) (u : Used) (c : Content) (date : Option (List ℕ)) → IsRead c → AreRead (us ++ u ∷ []) → AreRead (us ++ with_message u c date ∷ [])
message_read us u c date is read = subst (All IsRead) (sym (all-message us u c date)) (All-push IsRead (all_contents (us ++ u ∷ [])) c read is)

pub reply_read : (us : List Used) (u : Used) (date : Option (List ℕ)) → AreRead (us ++ u ∷ []) → AreRead (us ++ with_reply u date ∷ [])
reply_read us u date read = subst (All IsRead) (sym (all-reply us u date)) read
