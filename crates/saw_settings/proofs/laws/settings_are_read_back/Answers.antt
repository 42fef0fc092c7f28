use Rattle.saw_settings.proofs.KeptBack.{kept_text_is_read}
use Rattle.saw_settings.proofs.SettingsBack.{setting_is_read, setting_candidates_are_read}
use Rattle.saw_settings.proofs.laws.settings_are_read_back.Goals as goal

pub returns-clause-setting : goal.returns-clause-setting
returns-clause-setting c = setting_is_read

pub returns-clause-candidates : goal.returns-clause-candidates
returns-clause-candidates c = setting_candidates_are_read

pub returns-clause-kept : goal.returns-clause-kept
returns-clause-kept c = kept_text_is_read
