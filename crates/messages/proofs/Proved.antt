-- The theorem of specs/Theorems.antt.
use native.Mathlib.Omega.{arith}
use mathlib.Core.Path.{refl}
use Rattle.framing.specs.Header.{fields_at}
use Rattle.client.specs.Frames.{refusal}
use Rattle.client.specs.Replies.{difference_in, differing}
use Rattle.text.specs.Text.{decimal_of}
use Rattle.messages.specs.Messages.{frame_name, progress_line}
use Rattle.messages.specs.Theorems.{Messages}
use Rattle.messages.proofs.Lengths.{fits, loaded_fits, progress_fits}

pub messages : Messages
unfolding frame_name decimal_of differing refusal difference_in fields_at progress_line
messages = record {
  fits = λ job x f e. fits job x e f;
  loaded_fits = loaded_fits;
  started_fits = omega arith;
  progress_fits = progress_fits;
  silent = refl;
  other = refl;
  disagrees = refl;
  half = refl;
}
