-- What is left to prove of `laws::one_map`.
use Rattle.room_apply.proofs.OneMap as lemma
use Rattle.room_apply.proofs.laws.one_map.Goals as goal

pub returns : goal.returns
returns c = lemma.one_map
