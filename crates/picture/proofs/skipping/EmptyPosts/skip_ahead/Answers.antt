-- `picture::skipping::EmptyPosts::skip_ahead` meets its contract: none is stepped over, or as many as fit. Assumes nothing.
use Rattle.picture.proofs.Inner.{stepped_none}
use Rattle.picture.proofs.skipping.EmptyPosts.skip_ahead.Goals as goal

pub returns-then-self-lt4 : goal.returns-then-self-lt4
returns-then-self-lt4 c = stepped_none _ _ _

pub returns-then-self : goal.returns-then-self
returns-then-self c = stepped_none _ _ _
