-- Acts that happen, and bodies that are served, one after another.
use Rattle.std.proofs.Common.{◌≡◌, ℕ, ◌+◌, ◌<◌, List, [], ◌∷◌, ◌++◌, length, take, get_or, false, sym, ap, ◌∙◌}
use Rattle.std.proofs.lemmas.List.Sums.{fold_more, fold-append}
use Rattle.std.proofs.lemmas.Bool.{cond-false}
use Rattle.world.specs.declared.chan.Chan.{Chan}
use Rattle.toy_core.specs.declared.act.Act.{Act}
use Rattle.toy_core.specs.Standing.{Lines, line, news, perform_all, performed_one, Standing, has_ended, heard, serve_body, served_all, took_settled}

pub performed_more : (acts : List Act) (i : ℕ) (a : Act) (ls : Lines) → i < length acts → a ≡ get_or acts i a
    → perform_all (take (i + 1) acts) ls ≡ performed_one a (perform_all (take i acts) ls)
performed_more acts i a ls h e =
    fold_more (λ s x. performed_one x s) ls acts i a h ∙ ap (λ x. performed_one x (perform_all (take i acts) ls)) (sym e)

pub served_more : (now : ℕ) (key : List ℕ) (c : Chan) (bodies : List (List (List ℕ))) (b : List (List ℕ)) (s : Standing)
    → served_all now key c (bodies ++ b ∷ []) s ≡ serve_body now key c b (served_all now key c bodies s)
served_more now key c bodies b s = fold-append (λ t x. serve_body now key c x t) s bodies (b ∷ [])

pub took_settled_is : (now : ℕ) (key : List ℕ) (c : Chan) (piece : List ℕ) (s : Standing) → has_ended s.kernel ≡ false
    → took_settled now key c piece s ≡ served_all now key c (news c (line c s.lines).heard piece) (heard c piece s)
took_settled_is now key c piece s e =
    cond-false (has_ended s.kernel) s (served_all now key c (news c (line c s.lines).heard piece) (heard c piece s)) e
