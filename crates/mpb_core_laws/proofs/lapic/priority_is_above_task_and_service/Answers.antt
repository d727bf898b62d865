use Rattle.mpb_core_laws.proofs.LocalLemmas.{task_priority, service_priority}
use Rattle.mpb_core_laws.proofs.lapic.priority_is_above_task_and_service.Goals as goal

pub returns : goal.returns
returns c = record { task = task_priority; service = service_priority }
