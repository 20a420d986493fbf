-- The names of what is measured.
use Rattle.std.specs.Prelude.{ℕ, List, codes}
use Rattle.speed.specs.declared.work.Work.{Work}
use Rattle.speed.specs.declared.work.Work.TheVariants.{OpenCcm, OpenGcm, Packet, Erase, Fill}

abbrev pub work_name : Work → List ℕ
work_name OpenCcm = codes "open-ccm"
work_name OpenGcm = codes "open-gcm"
work_name Packet = codes "packet"
work_name Erase = codes "erase"
work_name Fill = codes "fill"
