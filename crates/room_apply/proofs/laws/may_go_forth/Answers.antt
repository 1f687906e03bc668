-- What is left to prove of `laws::may_go_forth`.
use Rattle.room_apply.proofs.Going as lemma
use Rattle.room_apply.proofs.laws.may_go_forth.Goals as goal

pub returns : goal.returns
returns c = lemma.may_go_forth
