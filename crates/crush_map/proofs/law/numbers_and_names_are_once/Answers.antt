use Rattle.crush_map.proofs.Once.{type_numbers_once, type_names_once, device_ids_once, bucket_ids_once, item_names_once, rule_ids_once, rule_names_once}
use Rattle.crush_map.proofs.law.numbers_and_names_are_once.Goals as goal

pub returns-clause-type_numbers : goal.returns-clause-type_numbers
returns-clause-type_numbers c = type_numbers_once

pub returns-clause-type_names : goal.returns-clause-type_names
returns-clause-type_names c = type_names_once

pub returns-clause-device_ids : goal.returns-clause-device_ids
returns-clause-device_ids c = device_ids_once

pub returns-clause-bucket_ids : goal.returns-clause-bucket_ids
returns-clause-bucket_ids c = bucket_ids_once

pub returns-clause-item_names : goal.returns-clause-item_names
returns-clause-item_names c = item_names_once

pub returns-clause-rule_ids : goal.returns-clause-rule_ids
returns-clause-rule_ids c = rule_ids_once

pub returns-clause-rule_names : goal.returns-clause-rule_names
returns-clause-rule_names c = rule_names_once
