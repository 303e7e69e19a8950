pub mod CurveLaws
