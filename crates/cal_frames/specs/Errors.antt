-- Why frames aren't shown, by why no transport was opened.
use Rattle.std.specs.Prelude.{alloc_error}
use Rattle.cal_transport.specs.declared.transport.making.OpenError.{OpenError}
use Rattle.cal_transport.specs.declared.transport.making.OpenError.TheVariants as opening
use Rattle.cal_frames.specs.declared.frame_error.FrameError.{FrameError}
use Rattle.cal_frames.specs.declared.frame_error.FrameError.TheVariants.{Create, NoMemory}

abbrev pub error_of_open : OpenError → FrameError
error_of_open (opening.Create cause) = Create cause
error_of_open opening.NoMemory = NoMemory alloc_error
