use Rattle.settle_test.proofs.Choices as choices
use Rattle.settle_test.proofs.settle.choice_laws.Goals as goal

pub returns : goal.returns
returns c = record { one_profile = choices.one_profile; one_strategy = choices.one_strategy }
