-- The theorem of specs/Theorems.antt.
use mathlib.Core.Path.{refl, ap}
use Rattle.framing.specs.Header.{fields_at}
use Rattle.client.specs.Frames.{refusal}
use Rattle.client.specs.Replies.{difference_in, taking}
use Rattle.upload.specs.Upload.{opening, replied, received, silent}
use Rattle.upload.specs.Theorems.{Uploads}
use Rattle.upload.specs.declared.Job.{Job}
use Rattle.upload.proofs.Jobs.{job_is}
use Rattle.upload.proofs.Ends.{ends}
use Rattle.upload.proofs.Sends.{first, sends}
use Rattle.upload.proofs.Answered.{reads}
use Rattle.upload.proofs.Loads.{loads}

pub uploads : Uploads
unfolding opening replied received silent taking refusal difference_in fields_at
uploads = record {
  digests = λ program id wait h. ap (λ (j : Job). j.digest) (job_is program id wait h);
  ends = ends;
  loads = loads;
  first = first;
  sends = sends;
  reads = reads;
  example = (refl, refl, refl, refl, refl, refl, refl, refl);
}
