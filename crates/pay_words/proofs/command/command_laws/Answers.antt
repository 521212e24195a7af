use Rattle.pay_words.proofs.CommandLemmas as lemmas
use Rattle.pay_words.proofs.command.command_laws.Goals as goal

pub returns : goal.returns
returns c = record {
  one_command = lemmas.one_request;
  one_misfit = lemmas.one_misfit;
  not_both = lemmas.no_misfit;
  any_order = lemmas.any_order;
  discount = lemmas.discount_given;
  no_words = lemmas.no_words;
  command_alone = lemmas.command_alone;
  check_one_file = lemmas.check_one_file;
  replay_one_file = lemmas.replay_one_file;
  files_alone = lemmas.files_alone;
}
