pub mod StepCall
