use Rattle.kernel_talk.proofs.session.Session.encode.Goals as goal

pub returns : goal.returns
returns c = rw (← c.self.view_is) (c.encode_under.ensures _ c.self.invariant)
