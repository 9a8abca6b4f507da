use Rattle.std.proofs.Common.{◌∙◌, ◌++◌, []}
use Rattle.toy_core.proofs.News.{news_by}
use Rattle.toy_core.proofs.lane.Lane.hear.Goals as goal

pub returns-clause-line : goal.returns-clause-line
returns-clause-line c = λ l a.
    let role = c.feed-fed.ensures.role ∙ a.role in
    let stands = c.feed-fed.ensures.stands (c.is_starved.ensures c.if-is_starved.false) l.heard [] a.stands in
    record {
      role = role;
      stands = stands;
      outbox = a.outbox;
      is_broken = c.is_broken-self.ensures c.args.chan (l.heard ++ c.args.piece.now) role stands;
      hears = c.hears-self.ensures (l.heard ++ c.args.piece.now) role stands;
    }

pub returns-clause-news : goal.returns-clause-news
returns-clause-news c = λ l a.
    news_by c.args.chan _ l.heard c.args.piece.now _ _ _ a.role c.new-bodies.ensures
    (c.feed-fed.ensures.brings (c.is_starved.ensures c.if-is_starved.false) l.heard [] a.stands)
